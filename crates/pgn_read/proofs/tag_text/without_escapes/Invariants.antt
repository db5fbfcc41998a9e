use Rattle.std.proofs.Common.{◌≡◌, ◌++◌, drop, false}
use Rattle.pgn_read.specs.TagText.{unescaped_from}
use Rattle.pgn_read.proofs.tag_text.without_escapes.Given as goal

-- The value so far, and what the bytes that are left mean, are the whole value.
abbrev pub invariant-loop-byte : goal.invariant-loop-byte
invariant-loop-byte l = l.value.items ++ unescaped_from l.escaped (drop l.byte-index l.raw) ≡ unescaped_from false l.raw
