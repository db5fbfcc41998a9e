use Rattle.std.proofs.Common.{◌≡◌, ◌<◌, ◌≤◌, ◌*◌, ◌+◌, ℕ, List, length, slice_set, sym, ap, ◌∙◌, subst}
use Rattle.std.specs.Vec.{with_items}
use Rattle.std.proofs.lemmas.List.{with_items_is}
use Rattle.index_entry.specs.declared.entry.Entry.{Entry}
use Rattle.base_core.specs.Packing.{ArePacked, entries_in}
use Rattle.base_core.proofs.PackLaws.{entries-length, entries-put, packed-put, put-length, put_at, within}
use Rattle.base_core.proofs.entries.Entries.set.Goals as goal

pub put_packed-requires : goal.put_packed-requires
put_packed-requires c =
    let long : length c.args.self.now ≡ c.self.inside.count = sym (ap (λ (xs : List Entry). length xs) c.self.view_is) ∙ entries-length c.self.inside.bytes.items c.self.inside.count in
    let below : c.args.i < c.self.inside.count = subst (λ n. c.args.i < n) long c.requires.there in
    record { there = subst (λ (b : List ℕ). 47 * c.args.i + 47 ≤ length b) (sym c.as_mut_slice.ensures.value) (within c.self.inside.bytes.items c.self.inside.count c.args.i c.self.invariant.size below) }

pub invariant_of-self : goal.invariant_of-self
invariant_of-self c =
    let long : length c.args.self.now ≡ c.self.inside.count = sym (ap (λ (xs : List Entry). length xs) c.self.view_is) ∙ entries-length c.self.inside.bytes.items c.self.inside.count in
    let below : c.args.i < c.self.inside.count = subst (λ n. c.args.i < n) long c.requires.there in
    let put : c.put_packed.new.bytes ≡ put_at c.self.inside.bytes.items c.args.i c.pack.result =
    c.put_packed.ensures.put ∙ ap (λ (b : List ℕ). put_at b c.args.i c.pack.result) c.as_mut_slice.ensures.value
    in
    let size : length c.put_packed.new.bytes ≡ c.self.inside.bytes.len =
    ap (λ (b : List ℕ). length b) put
    ∙ (put-length c.self.inside.bytes.items c.pack.result c.self.inside.count c.args.i c.self.invariant.size c.pack.ensures.written.size below ∙ (sym c.self.invariant.size ∙ sym c.self.inside.bytes.ok.0))
    in
    let items : (with_items c.self.inside.bytes c.put_packed.new.bytes).items ≡ put_at c.self.inside.bytes.items c.args.i c.pack.result =
    with_items_is c.self.inside.bytes c.put_packed.new.bytes size ∙ put
    in
    let P : List ℕ → Type 0 = λ b. ArePacked b c.self.inside.count in
    subst P (sym items) (packed-put c.self.inside.bytes.items c.pack.result c.self.inside.count c.args.i c.args.entry.now c.self.invariant c.pack.ensures.written below)

pub returns : goal.returns
returns c =
    let long : length c.args.self.now ≡ c.self.inside.count = sym (ap (λ (xs : List Entry). length xs) c.self.view_is) ∙ entries-length c.self.inside.bytes.items c.self.inside.count in
    let below : c.args.i < c.self.inside.count = subst (λ n. c.args.i < n) long c.requires.there in
    let put : c.put_packed.new.bytes ≡ put_at c.self.inside.bytes.items c.args.i c.pack.result =
    c.put_packed.ensures.put ∙ ap (λ (b : List ℕ). put_at b c.args.i c.pack.result) c.as_mut_slice.ensures.value
    in
    let size : length c.put_packed.new.bytes ≡ c.self.inside.bytes.len =
    ap (λ (b : List ℕ). length b) put
    ∙ (put-length c.self.inside.bytes.items c.pack.result c.self.inside.count c.args.i c.self.invariant.size c.pack.ensures.written.size below ∙ (sym c.self.invariant.size ∙ sym c.self.inside.bytes.ok.0))
    in
    let items : (with_items c.self.inside.bytes c.put_packed.new.bytes).items ≡ put_at c.self.inside.bytes.items c.args.i c.pack.result =
    with_items_is c.self.inside.bytes c.put_packed.new.bytes size ∙ put
    in
    record {
      set = ap (λ (b : List ℕ). entries_in b c.self.inside.count) items
          ∙ (entries-put c.self.inside.bytes.items c.pack.result c.self.inside.count c.args.i c.args.entry.now c.self.invariant.size c.pack.ensures.written below
          ∙ ap (λ (es : List Entry). slice_set es c.args.i c.args.entry.now) c.self.view_is);
    }
