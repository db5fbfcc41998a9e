use Rattle.std.proofs.Common.{length}
use Rattle.session_vectors.proofs.ReadyLaws.{watch-ready}
use Rattle.session_vectors.proofs.ready.watch.Goals as goal

pub returns : goal.returns
returns g c = record {
  ready = watch-ready c.watch.result _ c.args.desk.now c.args.by c.args.k (length c.args.hits.items) c.seat_mut.result.now c.watch.new.self _ _ _ _ c.requires.ready
      c.seat_mut.ensures.seat c.watch.ensures.view c.watch.ensures.watched c.watch.ensures.shown c.watch.ensures.others;
}
