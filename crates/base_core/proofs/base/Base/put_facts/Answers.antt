use Rattle.std.proofs.Common.{◌≡◌, true, List, Some, slice_get, sym, ap, ◌∙◌, subst}
use Rattle.index_entry.specs.declared.entry.Entry.{Entry}
use Rattle.base_core.specs.Represents.{IsSound, Kept}
use Rattle.base_core.proofs.MarkLaws.{marked-sound}
use Rattle.base_core.proofs.base.Base.put_facts.Goals as goal

pub invariant_of-self : goal.invariant_of-self
invariant_of-self c =
    let old : Kept = record { header = c.self.inside.header; names = c.self.inside.names; entries = c.self.inside.entries; end = c.self.inside.store; unsaved = c.self.inside.unsaved } in
    let at : slice_get old.entries c.args.i ≡ Some c.args.entry.now = ap (λ (k : Kept). slice_get k.entries c.args.i) c.self.view_is ∙ c.requires.at in
    let S : List Entry → Type 0 = λ es. IsSound (record old { entries = es; unsaved = true }) in
    subst S (sym c.set.ensures.set) (marked-sound old c.args.i c.args.entry.now c.args.deleted c.args.marks c.args.eco at c.self.invariant c.requires.few c.requires.low)
