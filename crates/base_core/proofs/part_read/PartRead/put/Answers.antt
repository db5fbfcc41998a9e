use Rattle.std.proofs.Common.{◌≡◌, ◌≤◌, ◌*◌, ◌+◌, ◌-◌, ℕ, List, ◌∷◌, [], ◌++◌, length, drop, sym, ap, ◌∙◌, subst, arith}
use Rattle.std.specs.Vec.{with_items}
use Rattle.std.proofs.lemmas.List.{length-drop, with_items_is}
use Rattle.base_core.specs.Packing.{AreFirst, PartRead, entries_in}
use Rattle.base_core.proofs.PackLaws.{ahead-put, entries-length, entries-put-next, first-put, put-size, put_at}
use Rattle.base_core.proofs.part_read.PartRead.put.Goals as goal

pub put_packed-requires : goal.put_packed-requires
put_packed-requires c =
    let seen : length c.args.self.now.ahead ≡ length c.self.inside.bytes.items - 47 * c.self.inside.count =
    sym (ap (λ (p : PartRead). length p.ahead) c.self.view_is) ∙ length-drop (47 * c.self.inside.count) c.self.inside.bytes.items
    in
    let there : 47 * c.self.inside.count + 47 ≤ length c.self.inside.bytes.items = omega (arith, seen, c.requires.there) in
    record { there = subst (λ (b : List ℕ). 47 * c.self.inside.count + 47 ≤ length b) (sym c.as_mut_slice.ensures.value) there }

pub overflow_add-self : goal.overflow_add-self
overflow_add-self c =
    let long : length c.args.self.now.read ≡ c.self.inside.count = sym (ap (λ (p : PartRead). length p.read) c.self.view_is) ∙ entries-length c.self.inside.bytes.items c.self.inside.count in
    omega (arith, c.requires.room, long)

pub invariant_of-self : goal.invariant_of-self
invariant_of-self c =
    let seen : length c.args.self.now.ahead ≡ length c.self.inside.bytes.items - 47 * c.self.inside.count =
    sym (ap (λ (p : PartRead). length p.ahead) c.self.view_is) ∙ length-drop (47 * c.self.inside.count) c.self.inside.bytes.items
    in
    let there : 47 * c.self.inside.count + 47 ≤ length c.self.inside.bytes.items = omega (arith, seen, c.requires.there) in
    let put : c.put_packed.new.bytes ≡ put_at c.self.inside.bytes.items c.self.inside.count c.pack.result =
    c.put_packed.ensures.put ∙ ap (λ (b : List ℕ). put_at b c.self.inside.count c.pack.result) c.as_mut_slice.ensures.value
    in
    let size : length c.put_packed.new.bytes ≡ c.self.inside.bytes.len =
    ap (λ (b : List ℕ). length b) put ∙ (put-size c.self.inside.bytes.items c.pack.result c.self.inside.count c.pack.ensures.written.size there ∙ sym c.self.inside.bytes.ok.0)
    in
    let items : (with_items c.self.inside.bytes c.put_packed.new.bytes).items ≡ put_at c.self.inside.bytes.items c.self.inside.count c.pack.result =
    with_items_is c.self.inside.bytes c.put_packed.new.bytes size ∙ put
    in
    let P : List ℕ → Type 0 = λ b. AreFirst b (c.self.inside.count + 1) in
    subst P (sym items) (first-put c.self.inside.bytes.items c.pack.result c.self.inside.count c.args.entry.now c.self.invariant c.pack.ensures.written there)

pub returns : goal.returns
returns c =
    let seen : length c.args.self.now.ahead ≡ length c.self.inside.bytes.items - 47 * c.self.inside.count =
    sym (ap (λ (p : PartRead). length p.ahead) c.self.view_is) ∙ length-drop (47 * c.self.inside.count) c.self.inside.bytes.items
    in
    let there : 47 * c.self.inside.count + 47 ≤ length c.self.inside.bytes.items = omega (arith, seen, c.requires.there) in
    let put : c.put_packed.new.bytes ≡ put_at c.self.inside.bytes.items c.self.inside.count c.pack.result =
    c.put_packed.ensures.put ∙ ap (λ (b : List ℕ). put_at b c.self.inside.count c.pack.result) c.as_mut_slice.ensures.value
    in
    let size : length c.put_packed.new.bytes ≡ c.self.inside.bytes.len =
    ap (λ (b : List ℕ). length b) put ∙ (put-size c.self.inside.bytes.items c.pack.result c.self.inside.count c.pack.ensures.written.size there ∙ sym c.self.inside.bytes.ok.0)
    in
    let items : (with_items c.self.inside.bytes c.put_packed.new.bytes).items ≡ put_at c.self.inside.bytes.items c.self.inside.count c.pack.result =
    with_items_is c.self.inside.bytes c.put_packed.new.bytes size ∙ put
    in
    record {
      read = ap (λ (b : List ℕ). entries_in b (c.self.inside.count + 1)) items
          ∙ (entries-put-next c.self.inside.bytes.items c.pack.result c.self.inside.count c.args.entry.now c.pack.ensures.written there
          ∙ ap (λ (p : PartRead). p.read ++ c.args.entry.now ∷ []) c.self.view_is);
      ahead = ap (λ (b : List ℕ). drop (47 * (c.self.inside.count + 1)) b) items
          ∙ (ahead-put c.self.inside.bytes.items c.pack.result c.self.inside.count c.pack.ensures.written.size there
          ∙ ap (λ (p : PartRead). drop 47 p.ahead) c.self.view_is);
    }
