use Rattle.std.proofs.Common.{◌≡◌, ◌+◌, ◌≤◌, drop}
use Rattle.pgn_write.specs.Layout.{column_after}
use Rattle.pgn_write.proofs.writer.column_after.Given as goal

-- What is left gives the same as all.
abbrev pub invariant-loop-byte : goal.invariant-loop-byte
invariant-loop-byte l = record {
  small : l.at ≤ l.column + l.byte-index;
  left : column_after l.at (drop l.byte-index l.text) ≡ column_after l.column l.text;
}
