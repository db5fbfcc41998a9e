use Rattle.std.proofs.Common.{◌≡◌, ◌≤◌, length, take}
use Rattle.compact_base.specs.Compacting.{numbering}
use Rattle.compact_base.proofs.numbering.numbering_of.Given as goal

-- The games so far have their new numbers.
abbrev pub invariant-loop-i : goal.invariant-loop-i
invariant-loop-i l = record {
  within : l.i ≤ length l.fn.base.entries;
  numbers : l.renumbering ≡ numbering (take l.i l.fn.base.entries);
}
