use Rattle.std.proofs.Common.{◌≡◌, ◌≤◌, drop, fold}
use Rattle.mend_base.specs.Marks.{text_after, texts_in}
use Rattle.mend_base.proofs.marks.TextsLeft.behind.Given as goal

-- What is left leads to the same.
abbrev pub invariant-loop-byte : goal.invariant-loop-byte
invariant-loop-byte l = record {
  leads : fold text_after l.left (drop l.byte-index l.bytes) ≡ texts_in l.fn.due l.fn.bytes;
  used : l.left.used ≤ l.byte-index;
}
