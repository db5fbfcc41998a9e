use Rattle.session_vectors.proofs.ReadyLaws.{filter-ready}
use Rattle.session_vectors.proofs.ready.filter.Goals as goal

pub returns : goal.returns
returns g c = record {
  ready = filter-ready c.set_filter.result _ c.args.desk.now c.args.by c.seat_mut.result.now c.set_filter.new.self _ _ c.args.new c.requires.ready
      c.seat_mut.ensures.seat c.set_filter.ensures.filter c.set_filter.ensures.slots c.set_filter.ensures.shown c.set_filter.ensures.told.others;
}
