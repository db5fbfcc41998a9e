use Rattle.std.proofs.Common.{◌≡◌, ◌+◌, ◌==◌, not, drop}
use Rattle.std.specs.List.{prefix_len}
use Rattle.pgn_write.proofs.writer.width.Given as goal

-- The bytes before, and the width of what is left.
abbrev pub invariant-loop-byte : goal.invariant-loop-byte
invariant-loop-byte l = record {
  place : l.at ≡ l.byte-index;
  left : l.at + prefix_len (λ byte. not (byte == 10)) (drop l.byte-index l.text) ≡ prefix_len (λ byte. not (byte == 10)) l.text;
}
