use Rattle.tree_rows.proofs.OneRow.{other-rows}
use Rattle.tree_rows.proofs.laws.a_hit_changes_its_own_row_alone.Goals as goal

pub returns : goal.returns
returns c = record { others = other-rows }
