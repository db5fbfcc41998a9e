use Rattle.std.proofs.Common.{◌≡◌, suc, ◌+◌, arith}
use Rattle.game_codec.proofs.PassLaws.{if_err}
use Rattle.game_codec.proofs.WalkLaws.{front_ends, front_closes, front_comment, front_variation, front_broken}
use Rattle.game_codec.proofs.passing.front_of.Goals as goal

pub returns-in-11-clause-fault : goal.returns-in-11-clause-fault
returns-in-11-clause-fault c = rw c.in-11.is c.nag.ensures.fault

pub returns-in-12-clause-front : goal.returns-in-12-clause-front
returns-in-12-clause-front c = (omega arith, omega arith, λ here left g. front_comment here left c.args.byte c.args.behind.now g c.in-12.is)

pub returns-in_err-variation_len-in-13-clause-fault : goal.returns-in_err-variation_len-in-13-clause-fault
returns-in_err-variation_len-in-13-clause-fault c =
    if_err _ c.from_residual.result
    (λ here left g. front_broken here left c.args.byte c.args.behind.now g c.in-13.is c.in_err-variation_len-in-13.ensures.fault)

pub returns-in_ok-variation_len-in-13-clause-front : goal.returns-in_ok-variation_len-in-13-clause-front
returns-in_ok-variation_len-in-13-clause-front c =
    let used = c.in_ok-variation_len-in-13.field-0 in
    let len = c.in_ok-variation_len-in-13.ensures.len in
    let next : 1 + used ≡ suc used = omega arith in (
      omega arith,
      omega (arith, len.0),
      λ here left g. rw next (front_variation here left c.args.byte c.args.behind.now g used c.in-13.is len.1),
    )

pub returns-in-14-clause-fault : goal.returns-in-14-clause-fault
returns-in-14-clause-fault c = λ here left g. front_closes here left c.args.byte c.args.behind.now g c.in-14.is

pub returns-in-15-clause-front : goal.returns-in-15-clause-front
returns-in-15-clause-front c = λ here left g. front_ends here left c.args.byte c.args.behind.now g c.in-15.is
