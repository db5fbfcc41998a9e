use Rattle.std.proofs.Common.{ℕ, List, Some, map, ap, sym, ◌∙◌, subst, arith}
use Rattle.name_base.specs.NameLists.{IsName}
use Rattle.name_base.specs.PartNames.{Known, name_met}
use Rattle.name_base.proofs.PartLemmas.{known-here, unknown-here, unknown-past}
use Rattle.name_base.proofs.part_names.PartKind.name_of.Goals as goal

pub returns-then-place-len-clause-name : goal.returns-then-place-len-clause-name
returns-then-place-len-clause-name c =
    sym (ap (λ (k : Known). name_met k c.args.id) (sym c.self.view_is) ∙ unknown-past c.self.inside.taken.items (map (λ v. v.items) c.self.inside.names.items) c.args.id (omega (arith, c.if-place-len.true, c.len.ensures)))

pub returns-then-not-index-clause-name : goal.returns-then-not-index-clause-name
returns-then-not-index-clause-name c =
    sym (ap (λ (k : Known). name_met k c.args.id) (sym c.self.view_is)
    ∙ unknown-here c.self.inside.taken.items (map (λ v. v.items) c.self.inside.names.items) c.args.id c.index.result.now (omega (arith, c.if-place-len.false, c.len.ensures)) c.index.ensures c.if-not-index.true)

pub returns-clause-name : goal.returns-clause-name
returns-clause-name c =
    ap Some c.as_slice.ensures.value
    ∙ sym (ap (λ (k : Known). name_met k c.args.id) (sym c.self.view_is)
    ∙ known-here (λ v. v.items) c.self.inside.taken.items c.self.inside.names.items c.args.id c.index.result.now c.index-2.result.now c.self.invariant.same
    (omega (arith, c.if-place-len.false, c.len.ensures)) c.index.ensures c.if-not-index.false c.index-2.ensures)

pub returns-clause-sound : goal.returns-clause-sound
returns-clause-sound c =
    let here = known-here (λ v. v.items) c.self.inside.taken.items c.self.inside.names.items c.args.id c.index.result.now c.index-2.result.now c.self.invariant.same
    (omega (arith, c.if-place-len.false, c.len.ensures)) c.index.ensures c.if-not-index.false c.index-2.ensures in
    subst (λ (n : List ℕ). IsName n) (sym c.as_slice.ensures.value) (c.self.invariant.each c.args.id c.index-2.result.now.items here)
