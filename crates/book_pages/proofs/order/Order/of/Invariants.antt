use Rattle.std.proofs.Common.{◌≡◌, ◌<◌, ℕ, length}
use Rattle.std.specs.Prelude.{Contains}
use Rattle.book_pages.specs.Order.{AreFound}
use Rattle.book_pages.proofs.order.Order.of.Given as goal

-- The pages so far were found.
abbrev pub invariant-loop-page : goal.invariant-loop-page
invariant-loop-page l = record {
  are : AreFound l.finding.signs.items l.finding.found.items;
  pages : length l.finding.signs.items ≡ length l.book.boards;
  all : (page : ℕ) → page < l.page → Contains l.finding.found.items page;
}
