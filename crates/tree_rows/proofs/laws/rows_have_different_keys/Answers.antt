use Rattle.tree_rows.proofs.OneRow.{keys-differ}
use Rattle.tree_rows.proofs.laws.rows_have_different_keys.Goals as goal

pub returns : goal.returns
returns c = record { differ = keys-differ }
