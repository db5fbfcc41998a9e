-- What all lines of a game have, as a reading of its record counts it (this project's own).
use Rattle.std.specs.Prelude.{◌≡◌}
use Rattle.game_tree.specs.Counts.{comments_of, nags_of, variations_of}
use Rattle.game_tree.specs.Game.{GameTree}
use Rattle.game_tree.specs.Promotions.{has_promotion, has_underpromotion}
use Rattle.game_codec.specs.declared.totals.Totals.{Totals}

-- These are the numbers of the game's variations, comments and NAGs in all its lines, and its marks of promotions.
pub record AreTotals (game : GameTree) (t : Totals) : Type 0 where
  pub variations : t.variations ≡ variations_of game
  pub comments : t.comments ≡ comments_of game
  pub nags : t.nags ≡ nags_of game
  pub promo : t.promo ≡ has_promotion game
  pub under : t.under ≡ has_underpromotion game
