-- Promotions in the lines of a game (FIDE Laws, Article 3.7.3.3).
use Rattle.std.specs.Prelude.{◌||◌, Bool, false, true, Option, Some, None, is_some}
use Rattle.cell_core.specs.declared.man.Kind.{Kind}
use Rattle.cell_core.specs.declared.man.Kind.TheVariants.{Queen}
use Rattle.cell_core.specs.declared.step.Move.{Move}
use Rattle.game_tree.specs.Tree.{Line, ends, goes, Branches, none, more}
use Rattle.game_tree.specs.Game.{GameTree}

-- Whether a move of the line or of one of its variations passes a test.
abbrev mutual
  pub line_any : (Move → Bool) → Line → Bool
  line_any test ends = false
  line_any test (goes mv nags comment variations line) = test mv || (branches_any test variations || line_any test line)

  pub branches_any : (Move → Bool) → Branches → Bool
  branches_any test none = false
  branches_any test (more lead line others) = line_any test line || branches_any test others

-- A promotion, and one to another man than a queen.
abbrev pub is_promotion : Move → Bool
is_promotion m = is_some m.promo

abbrev pub is_underpromotion_to : Option Kind → Bool
is_underpromotion_to None = false
is_underpromotion_to (Some Queen) = false
is_underpromotion_to (Some _) = true

abbrev pub is_underpromotion : Move → Bool
is_underpromotion m = is_underpromotion_to m.promo

-- Whether a game has one, in its main line or in a variation.
abbrev pub has_promotion : GameTree → Bool
has_promotion game = line_any is_promotion game.line

abbrev pub has_underpromotion : GameTree → Bool
has_underpromotion game = line_any is_underpromotion game.line
