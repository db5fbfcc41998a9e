-- It stands at the colour's place.
use Rattle.cell_core.proofs.Squares.{colour-set}
use Rattle.cell_core.proofs.sets.Sets.of_colour.Goals as goal

pub returns : goal.returns
returns c = record { squares = λ men is. rw is (colour-set c.args.colour men c.colour_place.result c.colour_place.ensures.number) }
