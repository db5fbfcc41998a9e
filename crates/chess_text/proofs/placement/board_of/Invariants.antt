use Rattle.std.proofs.Common.{◌≡◌, ℕ, List, ◌<◌, ◌≤◌, length, drop}
use Rattle.cell_core.specs.Board.{Men}
use Rattle.chess_text.specs.Filling.{board_named, filled}
use Rattle.chess_text.proofs.placement.board_of.Given as goal

-- what is left of the text fills the rest of the board as the whole text fills the empty one
pub record Fills (rank file : ℕ) (board : Men) (left text : List ℕ) : Type 0 where
  pub on_board : rank < 8
  pub in_rank : file ≤ 8
  pub squares : length board ≡ 64
  pub same : filled left (record { rank = rank; file = file; board = board })
      ≡ board_named text

abbrev pub invariant-loop-byte : goal.invariant-loop-byte
invariant-loop-byte l = Fills l.rank l.file l.board (drop l.byte-index l.text) l.fn.text
