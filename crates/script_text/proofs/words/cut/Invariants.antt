use Rattle.std.proofs.Common.{◌≡◌, drop}
use Rattle.script_text.specs.Words.{words_of}
use Rattle.script_text.specs.Cutting.{words_with}
use Rattle.script_text.proofs.words.cut.Given as goal

-- The bytes that are left give the words of the whole line.
abbrev pub invariant-loop-byte : goal.invariant-loop-byte
invariant-loop-byte l = words_with l.cutter (drop l.byte-index l.line) ≡ words_of l.fn.line
