use Rattle.std.proofs.Common.{◌≡◌, ◌≤◌, ◌+◌, ℕ, List, Some}
use Rattle.game_tree.specs.Game.{GameTree}
use Rattle.sig_index.specs.Games.{Holds}
use Rattle.book_pages.specs.Asking.{price_below}
use Rattle.book_pages.specs.Meeting.{AreCounts, HaveReached}
use Rattle.book_pages.proofs.finding.find_boards.Given as goal

-- The games before this one were counted, and the records of those that are in were asked for.
abbrev pub invariant-loop-i : goal.invariant-loop-i
invariant-loop-i g l = record {
  kept : AreCounts l.i l.counts.boards.keys l.counts.met.items;
  counted : (told : List ℕ) (list : List GameTree) → (g.F.Files.seen l.fn.files).games ≡ Some told
      → Holds told (g.G.Games.extents l.games) (g.G.Games.sigs l.games) list
      → HaveReached l.reach l.filter list l.i l.counts.boards.keys l.counts.met.items;
  unchanged : g.F.Files.seen l.files ≡ g.F.Files.seen l.fn.files;
  asks : g.F.Files.asked l.files ≤ g.F.Files.asked l.fn.files + price_below l.filter (g.G.Games.extents l.games) l.i;
  counts : g.F.Files.faults l.fn.files ≤ g.F.Files.faults l.files;
}
