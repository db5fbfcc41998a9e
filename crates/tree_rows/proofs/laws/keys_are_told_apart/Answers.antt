use Rattle.tree_rows.proofs.KeyLaws.{told-apart}
use Rattle.tree_rows.proofs.laws.keys_are_told_apart.Goals as goal

pub returns : goal.returns
returns c = record { same = told-apart }
