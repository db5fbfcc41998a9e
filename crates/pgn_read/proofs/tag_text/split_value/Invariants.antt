use Rattle.std.proofs.Common.{◌≡◌, ◌+◌, false, drop}
use Rattle.pgn_read.specs.TagText.{value_len}
use Rattle.pgn_read.proofs.tag_text.split_value.Given as goal

-- The bytes so far are in the value, and the rest of it is in what is left.
abbrev pub invariant-loop-i : goal.invariant-loop-i
invariant-loop-i l = l.i + value_len l.escaped (drop l.i l.text) ≡ value_len false l.fn.text
