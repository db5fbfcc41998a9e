-- The set of the man's kind and that of his colour lose his square.
use Rattle.cell_core.proofs.Squares.{kinds-leave, colours-leave}
use Rattle.cell_core.proofs.sets.Sets.remove.Goals as goal

pub returns : goal.returns
returns c =
    record {
      sets = λ men squares is stands.
          rw is
          (λ i. record {
            kinds = kinds-leave c.args.man.kind c.args.man.colour men c.args.s c.kind_place.result c.kind_place.ensures.number stands squares c.requires i;
            colours = colours-leave c.args.man.colour c.args.man.kind men c.args.s c.colour_place.result c.colour_place.ensures.number stands squares c.requires i;
          });
    }
