use Rattle.std.proofs.Common.{[], ap, ◌∙◌, arith}
use Rattle.tree_live.specs.Watching.{Watched, all_out, under}
use Rattle.tree_live.proofs.ChangeLaws.{few-in, none-shown}
use Rattle.tree_live.proofs.watch.Watch.attach.Goals as goal

pub returns-in_err-show-clause-told : goal.returns-in_err-show-clause-told
returns-in_err-show-clause-told g c =
    let few = few-in (under c.args.filter.now (all_out c.args.hits.now)) c.set_filter.new.self.games
    (ap (λ (w : Watched). w.games) c.in_ok-set_filter.ensures.watched
    ∙ ap (λ (w : Watched). under c.args.filter.now w.games) c.in_ok-watch.ensures.watched) in
    record {
      same = c.show.ensures.same ∙ c.clear.ensures.1.same;
      few = omega (arith, few, c.show.ensures.told [] (none-shown _ c.clear.ensures.0), c.clear.ensures.1.few);
    }

pub returns-clause-told : goal.returns-clause-told
returns-clause-told g c =
    let few = few-in (under c.args.filter.now (all_out c.args.hits.now)) c.set_filter.new.self.games
    (ap (λ (w : Watched). w.games) c.in_ok-set_filter.ensures.watched
    ∙ ap (λ (w : Watched). under c.args.filter.now w.games) c.in_ok-watch.ensures.watched) in
    record {
      same = c.show.ensures.same ∙ c.clear.ensures.1.same;
      few = omega (arith, few, c.show.ensures.told [] (none-shown _ c.clear.ensures.0), c.clear.ensures.1.few);
    }
