use Rattle.std.proofs.Common.{◌≡◌, ◌≤◌, ◌<◌, ◌+◌, ◌-◌, ◌++◌, drop, length}
use Rattle.mend_base.specs.Loose.{free_front, loose_from}
use Rattle.mend_base.proofs.loose.add_loose.Given as goal

-- The search from here on finds what is left, and the free bytes go as far as is said.
abbrev pub invariant-loop-at : goal.invariant-loop-at
invariant-loop-at l = record {
  leads : l.index.items ++ loose_from (l.fn.place + l.at) 0 (drop l.at l.fn.marks) (drop l.at l.fn.bytes) ≡ l.fn.index.items ++ loose_from l.fn.place 0 l.fn.marks l.fn.bytes;
  free : l.at < l.end → l.end - l.at ≡ free_front (drop l.at l.fn.marks);
  within : l.end ≤ length l.fn.marks;
}

abbrev pub decreases-loop-at : goal.decreases-loop-at
decreases-loop-at l = length l.fn.bytes - l.at
