-- No square is in a set.
use Rattle.std.proofs.Common.{refl}
use Rattle.cell_core.specs.Sets.{set_of, sets_of}
use Rattle.cell_core.proofs.sets.Sets.none.Goals as goal

pub returns : goal.returns
unfolding set_of sets_of
returns c = record { sets = refl }
