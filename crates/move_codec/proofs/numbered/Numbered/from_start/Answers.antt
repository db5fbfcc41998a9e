use Rattle.move_codec.proofs.Text.{AreNumbers-text}
use Rattle.move_codec.proofs.numbered.Numbered.from_start.Goals as goal

pub in_text-numbers-requires-clause-few : goal.in_text-numbers-requires-clause-few
in_text-numbers-requires-clause-few c = λ side. rw c.setup.ensures.setup (c.setup.ensures.sound.few side)

pub invariant_of-result : goal.invariant_of-result
invariant_of-result c =
    rw (c.in_text-numbers.ensures.numbers, c.setup.ensures.setup)
    (AreNumbers-text c.args.position.board c.setup.ensures.sound.squares c.setup.ensures.sound.kings c.setup.ensures.sound.few)
