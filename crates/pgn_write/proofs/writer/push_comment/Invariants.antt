use Rattle.std.proofs.Common.{◌≡◌, ◌≤◌, ◌++◌, drop, length}
use Rattle.std.specs.Prelude.{map}
use Rattle.pgn_write.specs.Token.{without_brace}
use Rattle.pgn_write.proofs.writer.push_comment.Given as goal

-- What is left gives the same as all.
abbrev pub invariant-loop-byte : goal.invariant-loop-byte
invariant-loop-byte l = record {
  left : l.unit.items ++ map without_brace (drop l.byte-index l.text) ≡ l.initial.unit.items ++ map without_brace l.text;
  longer : length l.initial.unit.items ≤ length l.unit.items;
}
