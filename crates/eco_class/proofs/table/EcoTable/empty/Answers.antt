use Rattle.eco_class.proofs.KeptLemmas.{kept_none}
use Rattle.eco_class.proofs.table.EcoTable.empty.Goals as goal

pub invariant_of-result : goal.invariant_of-result
invariant_of-result c = kept_none _ _ c.new.ensures.empty
