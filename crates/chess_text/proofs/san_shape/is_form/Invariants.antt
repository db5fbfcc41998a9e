use Rattle.std.proofs.Common.{◌≡◌, drop}
use Rattle.chess_text.specs.SanReading.{is_form}
use Rattle.chess_text.proofs.san_shape.is_form.Given as goal

-- what is left of the text is what is left of the form as the whole text is the whole form
abbrev pub invariant-loop-byte : goal.invariant-loop-byte
invariant-loop-byte l = is_form (drop l.byte-index l.form) l.rest ≡ is_form l.fn.form l.fn.text
