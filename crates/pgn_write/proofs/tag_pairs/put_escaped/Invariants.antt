use Rattle.std.proofs.Common.{◌≡◌, ◌++◌, drop, flat_map}
use Rattle.pgn_write.specs.TagPairs.{escaped_byte}
use Rattle.pgn_write.proofs.tag_pairs.put_escaped.Given as goal

-- What is left gives the same as all.
abbrev pub invariant-loop-byte : goal.invariant-loop-byte
invariant-loop-byte l = l.out.items ++ flat_map escaped_byte (drop l.byte-index l.value) ≡ l.initial.out.items ++ flat_map escaped_byte l.value
