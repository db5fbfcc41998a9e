use Rattle.tree_rows.proofs.SameText.{same-text}
use Rattle.tree_rows.proofs.laws.rows_of_hits_have_one_text.Goals as goal

pub returns : goal.returns
returns c = record { text = same-text }
