-- The replay of a main line: its moves, and the positions between them (this project's own).
use Rattle.std.specs.Prelude.{ℕ, List, Option, length, take, fold, slice_get}
use Rattle.cell_core.specs.declared.step.Move.{Move}
use Rattle.chess_laws.specs.declared.setup.Setup.{Setup}
use Rattle.chess_laws.specs.Step.{stepped}
use Rattle.game_tree.specs.Tree.{moves_of}
use Rattle.game_tree.specs.Game.{GameTree}

-- The moves of the main line, and how many they are.
abbrev pub main_moves : GameTree → List Move
main_moves g = moves_of g.line

abbrev pub plies_of : GameTree → ℕ
plies_of g = length (main_moves g)

-- The position after k moves of the main line, for k from 0 to the number of its moves.
abbrev pub position_at : GameTree → ℕ → Setup
position_at g k = fold stepped g.start (take k (main_moves g))

-- The move after it, and none at the end of the line.
abbrev pub next_at : GameTree → ℕ → Option Move
next_at g k = slice_get (main_moves g) k
