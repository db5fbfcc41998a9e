-- The set of the man's kind and that of his colour have his square.
use Rattle.cell_core.proofs.Squares.{kinds-come, colours-come}
use Rattle.cell_core.proofs.sets.Sets.add.Goals as goal

pub returns : goal.returns
returns c =
    record {
      sets = λ men squares is empty.
          rw is
          (λ i. record {
            kinds = kinds-come c.args.man.kind c.args.man.colour men c.args.s c.kind_place.result c.kind_place.ensures.number empty squares c.requires i;
            colours = colours-come c.args.man.colour c.args.man.kind men c.args.s c.colour_place.result c.colour_place.ensures.number empty squares c.requires i;
          });
    }
