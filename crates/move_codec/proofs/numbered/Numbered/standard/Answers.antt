use Rattle.move_codec.proofs.Text.{AreNumbers-standard}
use Rattle.move_codec.proofs.numbered.Numbered.standard.Goals as goal

pub invariant_of-result : goal.invariant_of-result
invariant_of-result c = rw (c.start.ensures.start, c.standard.ensures.numbers) AreNumbers-standard
