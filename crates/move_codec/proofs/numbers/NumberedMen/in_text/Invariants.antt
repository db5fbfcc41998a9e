use Rattle.move_codec.proofs.Text.{InText}
use Rattle.move_codec.proofs.numbers.NumberedMen.in_text.Given as goal

abbrev pub invariant-loop-place : goal.invariant-loop-place
invariant-loop-place l = InText l.board l.side l.place l.men
