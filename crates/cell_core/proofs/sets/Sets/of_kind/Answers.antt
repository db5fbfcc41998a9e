-- It stands at the kind's place.
use Rattle.cell_core.proofs.Squares.{kind-set}
use Rattle.cell_core.proofs.sets.Sets.of_kind.Goals as goal

pub returns : goal.returns
returns c = record { squares = λ men is. rw is (kind-set c.args.kind men c.kind_place.result c.kind_place.ensures.number) }
