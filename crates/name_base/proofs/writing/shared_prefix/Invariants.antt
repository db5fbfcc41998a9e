-- What is left to compare adds what is shared there.
use Rattle.std.proofs.Common.{◌≡◌, ◌≤◌, ◌+◌, ◌-◌, eqb, length, drop}
use Rattle.std.specs.List.{common_prefix_len}
use Rattle.name_base.proofs.writing.shared_prefix.Given as goal

abbrev pub invariant-loop-len : goal.invariant-loop-len
invariant-loop-len l = record {
  same : l.len + common_prefix_len eqb (drop l.len l.before) (drop l.len l.name) ≡ common_prefix_len eqb l.fn.before l.fn.name;
  within : l.len ≤ length l.name;
}

abbrev pub decreases-loop-len : goal.decreases-loop-len
decreases-loop-len l = length l.before - l.len
