use Rattle.std.proofs.Common.{◌≡◌, ◌++◌, drop, map, take}
use Rattle.filter_seat.proofs.saved.leave_out.Given as goal
use Rattle.filter_seat.specs.SavedFilters.{without_last}

-- The filters that the loop has passed have the game, and the others not yet.
abbrev pub invariant-loop-kept : goal.invariant-loop-kept
invariant-loop-kept l = l.saved ≡ map without_last (take l.kept-index l.fn.saved) ++ drop l.kept-index l.fn.saved
