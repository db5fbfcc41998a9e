use Rattle.std.proofs.Common.{ap, arith}
use Rattle.tree_live.specs.Watching.{Watched, hits_in}
use Rattle.tree_live.proofs.ChangeLaws.{few-renumbered}
use Rattle.tree_live.proofs.watch.Watch.renumbered.Goals as goal

pub returns-clause-told : goal.returns-clause-told
returns-clause-told g c =
    let few = few-renumbered c.args.renumbering.now.to c.args.self.now.games c.renumber.new.self.games c.requires.same_games
    (ap (λ (w : Watched). w.games) c.in_ok-renumber.ensures.watched) in
    record { same = c.show.ensures.same; few = omega (arith, few, c.show.ensures.told (hits_in c.args.self.now.games) c.requires.shown) }
