use Rattle.client_desk.proofs.DeskLaws.{one-apart, one-shown}
use Rattle.session_vectors.proofs.ReadyLaws.{bring-ready}
use Rattle.session_vectors.proofs.ready.bring.Goals as goal

pub echo-requires-clause-apart : goal.echo-requires-clause-apart
echo-requires-clause-apart g c =
    one-apart c.args.desk.now.seats c.args.by c.seat_mut.result.now c.own.new.self c.seat_mut.ensures.seat c.own.ensures.slots.0 c.own.ensures.slots.1 c.requires.ready.apart

pub echo-requires-clause-shown : goal.echo-requires-clause-shown
echo-requires-clause-shown g c =
    one-shown _ c.args.desk.now.seats c.args.by c.seat_mut.result.now c.own.new.self c.args.views.now c.own.new.views c.seat_mut.ensures.seat
    c.requires.ready.apart c.requires.ready.shown c.own.ensures.told.others c.in_ok-own.ensures.shown

pub returns : goal.returns
returns g c = record {
  ready = bring-ready c.echo.result _ c.args.desk.now c.echo.new.self c.args.by c.args.change.now c.seat_mut.result.now c.own.new.self c.echo.new.views
      c.args.games c.args.after c.requires.comes c.requires.ready.sized c.seat_mut.ensures.seat c.in_ok-own.ensures.follows
      (one-apart c.args.desk.now.seats c.args.by c.seat_mut.result.now c.own.new.self c.seat_mut.ensures.seat c.own.ensures.slots.0 c.own.ensures.slots.1 c.requires.ready.apart)
      c.echo.ensures.echoed c.echo.ensures.shown;
}
