use Rattle.std.proofs.Common.{ℕ, length}
use Rattle.std.proofs.lemmas.Result.{on_ok_weaker}
use Rattle.std.specs.Prelude.{if◌then◌else◌}
use Rattle.tree_live.specs.Slots.{is_within}
use Rattle.tree_live.specs.Watching.{Watched, under}
use Rattle.tree_live.proofs.HeldLaws.{held-changed, held-told}
use Rattle.game_vectors.proofs.Sizes.{some-filtered}
use Rattle.game_vectors.proofs.later.show.Goals as goal

pub returns : goal.returns
returns g c = record {
  wait = on_ok_weaker c.show.result
      (λ changed. record {
        held = held-changed (λ (k : ℕ) (watch : Watched). if is_within 0 8 k then record watch { games = under c.args.filter.now watch.games } else watch) c.args.slots.now
            c.show.new.self c.show.new.views c.show.ensures.slots.0 changed
            (held-told _ _ (is_within 0 8) (λ (watch : Watched). record watch { games = under c.args.filter.now watch.games }) c.args.slots.now c.args.views.now
            c.show.new.views c.requires.wait.held c.show.ensures.told);
        sized = some-filtered (length c.args.filter.now) c.args.filter.now (is_within 0 8) c.args.slots.now c.show.new.self changed c.requires.wait.sized;
      })
      c.show.ensures.watched;
}
