-- Games that are written as text, and the items that the text is then read as (PGN standard, 3.1).
use Rattle.std.specs.Prelude.{◌≤◌, ℕ, List, [], ◌∷◌, ◌++◌, length, map}
use Rattle.game_tree.specs.declared.head.Head.{Head}
use Rattle.game_tree.specs.Comments.{with_comments}
use Rattle.game_tree.specs.Game.{GameTree}
use Rattle.game_tree.specs.Kept.{IsGame}
use Rattle.pgn_write.specs.Pgn.{pgn_of}
use Rattle.pgn_write.specs.Token.{without_brace}
use Rattle.pgn_read.specs.declared.item.Item.{Item}
use Rattle.pgn_read.specs.declared.item.Item.TheVariants.{Good}
use Rattle.pgn_read.specs.Fit.{IsFitGame}
use Rattle.pgn_read.specs.Text.{longest}

-- A game with its head.
pub record Headed : Type 0 where
  pub head : Head
  pub game : GameTree

abbrev pub text_of : Headed → List ℕ
text_of g = pgn_of g.head g.game

-- A legal game with a settled head within its bounds, whose text is not too long to be read. Of the game holds what every game
-- of the code keeps.
pub record IsReadAgain (g : Headed) : Type 0 where
  pub fit : IsFitGame g.head g.game
  pub kept : IsGame g.game
  pub short : length (text_of g) ≤ longest

-- The texts of these games one behind the other.
abbrev pub texts_of : List Headed → List ℕ
texts_of [] = []
texts_of (g ∷ games) = text_of g ++ texts_of games

-- What the text of a game is read as: the same head, and the same game, but that each closing brace of a comment is a closing
-- bracket, as it is written.
abbrev pub again : Headed → Item
again g = Good g.head (with_comments (map without_brace) g.game)
