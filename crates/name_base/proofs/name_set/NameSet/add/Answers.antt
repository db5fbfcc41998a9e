-- A name that is there changes nothing; a new one is the last of the keys and of the names.
use Rattle.std.proofs.Common.{◌≡◌, ◌<◌, None, length, sym, subst, arith, rules}
use Rattle.name_base.specs.NameLists.{AreNames, id_in}
use Rattle.name_base.proofs.NameLemmas.{with_name-present, names_added, AreNames-with_name}
use Rattle.name_base.proofs.name_set.NameSet.add.Goals as goal

pub returns-in-Some-clause-names : goal.returns-in-Some-clause-names
returns-in-Some-clause-names c = with_name-present c.args.self.now c.args.name.now c.in-Some.id c.in-Some.ensures

pub returns-clause-names : goal.returns-clause-names
returns-clause-names c = names_added (λ v. v.items) _ _ _ _ _ c.self.view_is c.in_ok-from_slice.ensures.items c.in_ok-insert.ensures.keys

pub returns-clause-sound : goal.returns-clause-sound
returns-clause-sound c are =
    let none : id_in c.args.self.now c.args.name.now ≡ None = search rules in
    let room : length c.args.self.now < c.args.limit = omega arith in
    subst (AreNames c.args.limit) (sym (names_added (λ v. v.items) _ _ _ _ _ c.self.view_is c.in_ok-from_slice.ensures.items c.in_ok-insert.ensures.keys))
    (AreNames-with_name c.args.limit c.args.self.now c.args.name.now are c.requires.name none room)

pub invariant_of-self-2 : goal.invariant_of-self-2
invariant_of-self-2 c =
    let none : id_in c.args.self.now c.args.name.now ≡ None = search rules in
    let room : length c.args.self.now < 1048576 = omega arith in
    subst (AreNames 1048576) (sym (names_added (λ v. v.items) _ _ _ _ _ c.self.view_is c.in_ok-from_slice.ensures.items c.in_ok-insert.ensures.keys))
    (AreNames-with_name 1048576 c.args.self.now c.args.name.now (subst (AreNames 1048576) c.self.view_is c.self.invariant) c.requires.name none room)
