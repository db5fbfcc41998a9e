use Rattle.std.proofs.Common.{ℕ, List, sym, ap, ◌∙◌, subst}
use Rattle.base_core.specs.Packing.{ArePacked, PartRead, entries_in}
use Rattle.base_core.proofs.PackLaws.{entries-first, first-packed}
use Rattle.base_core.proofs.part_read.PartRead.into_entries.Goals as goal

pub of-requires : goal.of-requires
of-requires c =
    let P : List ℕ → Type 0 = λ b. ArePacked b c.self.inside.count in
    record { packed = subst P (sym c.truncate.ensures.items) (first-packed c.self.inside.bytes.items c.self.inside.count c.self.invariant) }

pub returns : goal.returns
returns c = record {
  entries = c.of.ensures.entries
      ∙ (ap (λ (b : List ℕ). entries_in b c.self.inside.count) c.truncate.ensures.items
      ∙ (entries-first c.self.inside.bytes.items c.self.inside.count c.self.invariant ∙ ap (λ (p : PartRead). p.read) c.self.view_is));
}
