use Rattle.game_vectors.proofs.Sizes.{numbers-sized, stands}
use Rattle.game_vectors.proofs.standing.renumber.Goals as goal

pub returns : goal.returns
returns g c = record {
  stand = stands c.renumbered.result _ c.renumbered.new.self c.renumbered.new.views c.args.renumbering.now.kept
      (λ changed. numbers-sized c.args.renumbering.now.kept c.args.renumbering.now.to c.args.slots.now c.renumbered.new.self c.to-to.ensures.rises changed c.requires.stand.sized)
      c.renumbered.ensures.watched c.renumbered.ensures.shown;
}
