use Rattle.std.proofs.Common.{ap, arith}
use Rattle.tree_live.specs.Watching.{Watched, hits_in}
use Rattle.tree_live.proofs.ChangeLaws.{few-with}
use Rattle.tree_live.proofs.watch.Watch.game_changed.Goals as goal

pub returns-clause-told : goal.returns-clause-told
returns-clause-told g c =
    let few = few-with c.args.i c.args.game c.args.self.now.games c.set_game.new.self.games (ap (λ (w : Watched). w.games) c.in_ok-set_game.ensures.watched) in
    record { same = c.show.ensures.same; few = omega (arith, few, c.show.ensures.told (hits_in c.args.self.now.games) c.requires.shown) }
