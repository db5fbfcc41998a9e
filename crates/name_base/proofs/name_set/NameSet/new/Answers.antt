-- No keys are no names.
use Rattle.std.proofs.Common.{map, sym, subst}
use Rattle.name_base.specs.NameLists.{AreNames}
use Rattle.name_base.proofs.NameLemmas.{AreNames-none}
use Rattle.name_base.proofs.name_set.NameSet.new.Goals as goal

pub invariant_of-result : goal.invariant_of-result
invariant_of-result c = subst (λ keys. AreNames 1048576 (map (λ v. v.items) keys)) (sym c.new.ensures.empty) (AreNames-none 1048576)
