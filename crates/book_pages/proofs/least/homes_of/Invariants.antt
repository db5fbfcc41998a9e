use Rattle.std.proofs.Common.{take}
use Rattle.std.specs.Prelude.{All}
use Rattle.book_pages.specs.Keeping.{HasHomes}
use Rattle.book_pages.proofs.least.homes_of.Given as goal

-- The boards so far have one of the sets.
abbrev pub invariant-loop-board : goal.invariant-loop-board
invariant-loop-board l = All (HasHomes l.homes.items) (take l.board-index l.boards)
