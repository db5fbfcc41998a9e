-- A cut of the keys is a cut of the names.
use Rattle.std.proofs.Common.{sym, subst}
use Rattle.name_base.specs.NameLists.{AreNames}
use Rattle.name_base.proofs.NameLemmas.{AreNames-take, names_cut}
use Rattle.name_base.proofs.name_set.NameSet.truncate.Goals as goal

pub returns-clause-names : goal.returns-clause-names
returns-clause-names c = names_cut (λ v. v.items) _ _ _ _ c.self.view_is c.truncate.ensures.keys

pub returns-clause-sound : goal.returns-clause-sound
returns-clause-sound c limit are =
    subst (AreNames limit) (sym (names_cut (λ v. v.items) _ _ _ _ c.self.view_is c.truncate.ensures.keys)) (AreNames-take limit c.args.count c.args.self.now are)

pub invariant_of-self : goal.invariant_of-self
invariant_of-self c =
    subst (AreNames 1048576) (sym (names_cut (λ v. v.items) _ _ _ _ c.self.view_is c.truncate.ensures.keys))
    (AreNames-take 1048576 c.args.count c.args.self.now (subst (AreNames 1048576) c.self.view_is c.self.invariant))
