use Rattle.tree_rows.proofs.SharedTexts.{text-shared}
use Rattle.tree_rows.proofs.laws.texts_of_moves_are_shared.Goals as goal

pub returns : goal.returns
returns c = record { shared = text-shared }
