use Rattle.std.proofs.Common.{◌≡◌, ◌≤◌, ◌+◌, drop, fold}
use Rattle.mend_base.specs.Marks.{IsCounted, end_after, line_end}
use Rattle.mend_base.proofs.marks.Spot.line_end.Given as goal

-- What is left leads to the same end.
abbrev pub invariant-loop-byte : goal.invariant-loop-byte
invariant-loop-byte l = record {
  leads : (fold (end_after l.fn.line) l.end (drop l.byte-index l.bytes)).spot ≡ line_end l.fn.line l.fn.self l.fn.bytes;
  counted : IsCounted l.end.spot;
  within : l.end.spot.passed ≤ l.fn.self.passed + l.byte-index;
}
