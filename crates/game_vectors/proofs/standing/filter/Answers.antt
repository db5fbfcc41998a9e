use Rattle.std.proofs.Common.{length}
use Rattle.game_vectors.proofs.Sizes.{filter-sized, stands}
use Rattle.game_vectors.proofs.standing.filter.Goals as goal

pub returns : goal.returns
returns g c = record {
  stand = stands c.filter_changed.result _ c.filter_changed.new.self c.filter_changed.new.views (length c.args.filter.now)
      (λ changed. filter-sized (length c.args.filter.now) c.args.filter.now c.args.slots.now c.filter_changed.new.self changed c.requires.stand.sized)
      c.filter_changed.ensures.watched c.filter_changed.ensures.shown;
}
