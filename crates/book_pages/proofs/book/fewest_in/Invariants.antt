use Rattle.std.proofs.Common.{take}
use Rattle.std.specs.Prelude.{All}
use Rattle.book_pages.specs.Keeping.{IsBoard}
use Rattle.book_pages.proofs.book.fewest_in.Given as goal

-- The boards so far have at least so many men.
abbrev pub invariant-loop-board : goal.invariant-loop-board
invariant-loop-board l = All (IsBoard l.fewest) (take l.board-index l.boards)
