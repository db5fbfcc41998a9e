use Rattle.std.proofs.Common.{◌≡◌, ◌+◌, drop}
use Rattle.mend_base.specs.Loose.{free_front}
use Rattle.mend_base.proofs.loose.free_front.Given as goal

-- The marks so far are all free.
abbrev pub invariant-loop-taken : goal.invariant-loop-taken
invariant-loop-taken l = record {
  leads : l.free + free_front (drop l.taken-index l.marks) ≡ free_front l.fn.marks;
  free : l.free ≡ l.taken-index;
}
