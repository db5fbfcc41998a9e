use Rattle.std.proofs.Common.{arith}
use Rattle.client_desk.proofs.EchoLaws.{echo-told, echo-more}
use Rattle.client_desk.proofs.echoing.echo_to_others.Goals as goal

pub loop-c-preserved : goal.loop-c-preserved
loop-c-preserved g c =
    echo-more _ _ c.args.by c.args.change.now c.loop-c.c c.args.seats.now c.loop-c.seats c.echo_at.new.seats
    c.args.views.now c.loop-c.views c.echo_at.new.views c.requires.apart (omega (arith, c.loop-c-test.true, c.loop-c.invariant.number, c.loop-c.auto.seats))
    c.loop-c.invariant c.echo_at.ensures.told c.in_ok-echo_at.ensures.done

pub returns-in_err-echo_at-clause-told : goal.returns-in_err-echo_at-clause-told
returns-in_err-echo_at-clause-told g c =
    echo-told _ _ c.args.by c.args.change.now c.loop-c.c c.args.seats.now c.loop-c.seats c.echo_at.new.seats
    c.args.views.now c.loop-c.views c.echo_at.new.views c.requires.apart (omega (arith, c.loop-c-test.true, c.loop-c.invariant.number, c.loop-c.auto.seats))
    c.loop-c.invariant c.echo_at.ensures.told
