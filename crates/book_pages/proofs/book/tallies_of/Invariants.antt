use Rattle.std.proofs.Common.{◌≡◌, length}
use Rattle.std.specs.Prelude.{All}
use Rattle.book_pages.specs.Keeping.{IsUncounted}
use Rattle.book_pages.proofs.book.tallies_of.Given as goal

-- The tallies so far are of boards on which no game was counted.
abbrev pub invariant-loop-page : goal.invariant-loop-page
invariant-loop-page l = record {
  count : length l.tallies.items ≡ l._page;
  each : All IsUncounted l.tallies.items;
}
