use Rattle.std.proofs.Common.{◌≡◌, ◌<◌, ◌≤◌, ◌*◌, ◌+◌, ℕ, List, length, slice_get, Some, sym, ap, ◌∙◌, subst}
use Rattle.index_entry.specs.Entry.{IsWritten, entry_in}
use Rattle.index_entry.specs.declared.entry.Entry.{Entry}
use Rattle.base_core.specs.Packing.{packed_at}
use Rattle.base_core.proofs.PackLaws.{entries-get, entries-length, within}
use Rattle.base_core.proofs.entries.Entries.packed.Goals as goal

pub packed_at-requires : goal.packed_at-requires
packed_at-requires c =
    let long : length c.args.self.now ≡ c.self.inside.count = sym (ap (λ (xs : List Entry). length xs) c.self.view_is) ∙ entries-length c.self.inside.bytes.items c.self.inside.count in
    let below : c.args.i < c.self.inside.count = subst (λ n. c.args.i < n) long c.requires.there in
    record { there = subst (λ (b : List ℕ). 47 * c.args.i + 47 ≤ length b) (sym c.as_slice.ensures.value) (within c.self.inside.bytes.items c.self.inside.count c.args.i c.self.invariant.size below) }

pub returns : goal.returns
returns c =
    let long : length c.args.self.now ≡ c.self.inside.count = sym (ap (λ (xs : List Entry). length xs) c.self.view_is) ∙ entries-length c.self.inside.bytes.items c.self.inside.count in
    let below : c.args.i < c.self.inside.count = subst (λ n. c.args.i < n) long c.requires.there in
    let at : slice_get c.args.self.now c.args.i ≡ Some (entry_in (packed_at c.self.inside.bytes.items c.args.i)) =
    ap (λ (xs : List Entry). slice_get xs c.args.i) (sym c.self.view_is) ∙ entries-get c.self.inside.bytes.items c.self.inside.count c.args.i below in
    let bytes : c.packed_at.result.now ≡ packed_at c.self.inside.bytes.items c.args.i = c.packed_at.ensures.packed ∙ ap (λ (b : List ℕ). packed_at b c.args.i) c.as_slice.ensures.value in
    let W : List ℕ → Type 0 = λ b. IsWritten b (entry_in b) in
    record {
      at = at ∙ ap (λ (b : List ℕ). Some (entry_in b)) (sym bytes);
      written = subst W (sym bytes) (c.self.invariant.each c.args.i below);
    }
