-- What a base takes: a game whose moves are legal, with a head that is within its bounds and settled (this project's
-- own).
use Rattle.std.specs.Prelude.{⊤}
use Rattle.game_tree.specs.declared.head.Head.{Head}
use Rattle.game_tree.specs.Game.{GameTree}
use Rattle.game_tree.specs.Head.{IsBounded}
use Rattle.game_tree.specs.Legal.{IsLegalGame}
use Rattle.game_tree.specs.Settle.{IsSettled}
use Rattle.pgn_read.specs.declared.item.Item.{Item}
use Rattle.pgn_read.specs.declared.item.Item.TheVariants.{Good, Bad}

pub record IsFitGame (head : Head) (game : GameTree) : Type 0 where
  pub legal : IsLegalGame game
  pub bounded : IsBounded head
  pub settled : IsSettled head

-- An item is so if it is a game.
abbrev pub IsFit : Item → Type 0
IsFit (Good head game) = IsFitGame head game
IsFit (Bad fault) = ⊤
