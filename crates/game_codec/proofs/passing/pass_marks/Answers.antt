use Rattle.game_codec.proofs.PassLaws.{if_err}
use Rattle.game_codec.proofs.passing.pass_marks.Goals as goal

pub returns-in_err-at_front-clause-fault : goal.returns-in_err-at_front-clause-fault
returns-in_err-at_front-clause-fault c =
    if_err _ c.from_residual.result (λ here left g. c.in_err-at_front.ensures.fault here left (c.loop-used.invariant.goes here left g))

pub returns-in-End-clause-due : goal.returns-in-End-clause-due
returns-in-End-clause-due c = λ here left g.
    let ends = rw c.in-End.is at c.in_ok-at_front.ensures.front in
    ends here left (c.loop-used.invariant.goes here left g)
