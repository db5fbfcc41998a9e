use Rattle.std.proofs.Common.{ap, arith}
use Rattle.tree_live.specs.Watching.{Watched, hits_in}
use Rattle.tree_live.proofs.ChangeLaws.{few-under}
use Rattle.tree_live.proofs.watch.Watch.filter_changed.Goals as goal

pub returns-clause-told : goal.returns-clause-told
returns-clause-told g c =
    let few = few-under c.args.filter.now c.args.self.now.games c.set_filter.new.self.games (ap (λ (w : Watched). w.games) c.in_ok-set_filter.ensures.watched) in
    record { same = c.show.ensures.same; few = omega (arith, few, c.show.ensures.told (hits_in c.args.self.now.games) c.requires.shown) }
