use Rattle.std.proofs.Common.{length, refl, ap, ◌∙◌}
use Rattle.tree_live.specs.Watching.{all_out, under}
use Rattle.game_vectors.proofs.Sizes.{set-sized, stands}
use Rattle.game_vectors.proofs.standing.watch.Goals as goal

pub returns-clause-stand : goal.returns-clause-stand
returns-clause-stand g c =
    stands c.watch.result _ c.watch.new.self c.watch.new.views (length c.args.filter.now)
    (λ watched. set-sized (length c.args.filter.now) c.args.k c.args.slots.now c.watch.new.self
    (record { board = c.args.board; games = under c.args.filter.now (all_out c.as_slice.result.now) }) c.as_slice.result.now c.args.filter.now watched refl
    (ap length c.as_slice.ensures.value ∙ c.requires.same_games) c.requires.stand.sized)
    c.watch.ensures.watched (c.watch.ensures.shown c.requires.stand.shown)
