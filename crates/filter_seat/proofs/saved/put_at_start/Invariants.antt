use Rattle.std.proofs.Common.{◌≡◌, ◌++◌, drop, map, take}
use Rattle.filter_seat.proofs.saved.put_at_start.Given as goal
use Rattle.filter_seat.specs.SavedFilters.{kept_to_start, to_start}

-- The filters that the loop has passed have the game at its start, and the others not yet.
abbrev pub invariant-loop-kept : goal.invariant-loop-kept
invariant-loop-kept l = record {
  filter : l.filter ≡ to_start l.i l.fn.filter;
  saved : l.saved ≡ map (kept_to_start l.i) (take l.kept-index l.fn.saved) ++ drop l.kept-index l.fn.saved;
}
