use Rattle.std.proofs.Common.{◌≡◌, ◌≤◌, ◌-◌, ◌++◌, length, replicate}
use Rattle.filter_seat.proofs.following.add_to.Given as goal

-- So many games behind those that it had have the entry.
abbrev pub invariant-loop-alloc : goal.invariant-loop-alloc
invariant-loop-alloc l = record {
  added : l.filter ≡ l.fn.filter ++ replicate (length l.filter - length l.fn.filter) l.entry;
  more : length l.fn.filter ≤ length l.filter;
  few : length l.filter ≤ l.games;
}

abbrev pub decreases-loop-alloc : goal.decreases-loop-alloc
decreases-loop-alloc l = l.games - length l.filter
