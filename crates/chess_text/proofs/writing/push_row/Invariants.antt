use Rattle.std.proofs.Common.{◌≡◌, ℕ, ◌≤◌, List, ◌++◌, drop}
use Rattle.cell_core.specs.Board.{Men}
use Rattle.chess_text.specs.Written.{row_text}
use Rattle.chess_text.proofs.writing.push_row.Given as goal

-- what is written, with the text of the squares that are left behind the empty ones so far, is the whole row
pub record WritesRow (out old : List ℕ) (empty passed : ℕ) (left squares : Men) : Type 0 where
  pub run : empty ≤ passed
  pub text : out ++ row_text empty left ≡ old ++ row_text 0 squares

abbrev pub invariant-loop-square : goal.invariant-loop-square
invariant-loop-square l =
    WritesRow l.out.items l.fn.out.items l.empty l.square-index (drop l.square-index l.squares) l.fn.squares
