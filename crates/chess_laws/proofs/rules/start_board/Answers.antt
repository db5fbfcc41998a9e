-- The sets are those of the cells, by computing.
use Rattle.chess_laws.proofs.Words.{◌∙◌, refl}
use Rattle.cell_core.specs.Sets.{set_of, sets_of}
use Rattle.chess_laws.proofs.rules.start_board.Goals as goal

pub with_sets-requires : goal.with_sets-requires
unfolding set_of sets_of
with_sets-requires c = record { sets = rw c.copied.ensures refl }

pub returns : goal.returns
returns c = c.with_sets.ensures.men ∙ c.copied.ensures
