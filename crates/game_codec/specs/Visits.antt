-- The moves of all lines of a game in the order in which they are written (PGN standard, 8.2: a variation stands behind the
-- move in place of which it is played, and before the next move of that line).
use Rattle.std.specs.Prelude.{ℕ, suc, Bool, true, false, not, List, [], ◌∷◌, ◌++◌, map, filter}
use Rattle.cell_core.specs.declared.step.Move.{Move}
use Rattle.chess_laws.specs.declared.setup.Setup.{Setup}
use Rattle.chess_laws.specs.Step.{stepped}
use Rattle.game_tree.specs.Tree.{Line, ends, goes, Branches, none, more}
use Rattle.game_tree.specs.Game.{GameTree}

-- A move that is played in a line: the position after it, its number from the game's start along its own line, and whether
-- that is the main line.
pub record Visit : Type 0 where
  pub mv : Move
  pub position : Setup
  pub ply : ℕ
  pub main : Bool

-- A move from this position, which is reached after so many moves.
abbrev pub visit_from : Bool → Setup → ℕ → Move → Visit
visit_from main p ply m = record { mv = m; position = stepped p m; ply = suc ply; main = main }

-- The moves of a line from this position on, each with those of its variations behind it. A variation begins at the
-- position before the move that it hangs on.
abbrev mutual
  pub line_visits : Bool → Setup → ℕ → Line → List Visit
  line_visits main p ply ends = []
  line_visits main p ply (goes mv nags comment variations line) =
      visit_from main p ply mv ∷ branch_visits p ply variations ++ line_visits main (stepped p mv) (suc ply) line

  pub branch_visits : Setup → ℕ → Branches → List Visit
  branch_visits p ply none = []
  branch_visits p ply (more lead line others) = line_visits false p ply line ++ branch_visits p ply others

-- All moves of a game.
abbrev pub all_visits : GameTree → List Visit
all_visits game = line_visits true game.start 0 game.line

-- The positions after the moves of the variations alone, each with its number of moves from the game's start.
abbrev pub place_of_visit : Visit → Setup × ℕ
place_of_visit v = (v.position, v.ply)

abbrev pub places : GameTree → List (Setup × ℕ)
places game = map place_of_visit (filter (λ v. not v.main) (all_visits game))

-- The moves of the main line alone: its replay, one after the other.
abbrev pub main_visits : Setup → ℕ → List Move → List Visit
main_visits p ply [] = []
main_visits p ply (m ∷ moves) = visit_from true p ply m ∷ main_visits (stepped p m) (suc ply) moves
