use Rattle.std.proofs.Common.{arith}
use Rattle.game_codec.proofs.PassLaws.{HasPassed-all, if_err}
use Rattle.game_codec.proofs.passing.variation_len.Goals as goal

pub returns-in_err-passed-clause-fault : goal.returns-in_err-passed-clause-fault
returns-in_err-passed-clause-fault c =
    if_err _ c.from_residual.result (λ behind h. c.in_err-passed.ensures.fault behind (c.loop-depth.invariant.passes behind h))

pub returns-clause-len : goal.returns-clause-len
returns-clause-len c =
    (omega arith, λ behind h. HasPassed-all c.args.bytes.now c.loop-depth.rest.now c.loop-depth.depth c.loop-depth.invariant (omega (arith, c.loop-depth-test.false)) behind h)
