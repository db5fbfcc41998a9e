use Rattle.std.proofs.Common.{◌≡◌, ◌++◌, drop, map, take}
use Rattle.game_filter.specs.Renumbering.{renumbered}
use Rattle.filter_seat.proofs.saved.renumber_all.Given as goal
use Rattle.filter_seat.specs.SavedFilters.{kept_renumbered}

-- The filters that the loop has passed have moved, and the others not yet.
abbrev pub invariant-loop-kept : goal.invariant-loop-kept
invariant-loop-kept l = record {
  filter : l.filter ≡ renumbered l.fn.renumbering.to l.fn.filter;
  saved : l.saved ≡ map (kept_renumbered l.fn.renumbering.to) (take l.kept-index l.fn.saved) ++ drop l.kept-index l.fn.saved;
}
