use Rattle.std.proofs.Common.{◌≡◌, ◌≤◌, drop, fold}
use Rattle.mend_base.specs.Marks.{IsCounted, spot_after, spot_behind}
use Rattle.mend_base.proofs.marks.Spot.behind.Given as goal

-- What is left leads to the same spot.
abbrev pub invariant-loop-byte : goal.invariant-loop-byte
invariant-loop-byte l = record {
  leads : fold (spot_after l.fn.line) l.spot (drop l.byte-index l.bytes) ≡ spot_behind l.fn.line l.fn.bytes;
  counted : IsCounted l.spot;
  within : l.spot.passed ≤ l.byte-index;
}
