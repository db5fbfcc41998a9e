use Rattle.book_pages.specs.Order.{GoesOn}
use Rattle.book_pages.proofs.order.Finding.go_behind.Given as goal

-- More pages were found.
abbrev pub invariant-loop-to : goal.invariant-loop-to
invariant-loop-to l = GoesOn l.fn.self.signs.items l.fn.self.found.items l.self.signs.items l.self.found.items
