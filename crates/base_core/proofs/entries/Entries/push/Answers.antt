use Rattle.std.proofs.Common.{◌≡◌, ◌+◌, ℕ, List, [], ◌∷◌, ◌++◌, length, sym, ap, ◌∙◌, subst, arith}
use Rattle.index_entry.specs.declared.entry.Entry.{Entry}
use Rattle.base_core.specs.Packing.{ArePacked, entries_in}
use Rattle.base_core.proofs.PackLaws.{entries-length, entries-push, packed-push}
use Rattle.base_core.proofs.entries.Entries.push.Goals as goal

pub overflow_add-self : goal.overflow_add-self
overflow_add-self c =
    let long : length c.args.self.now ≡ c.self.inside.count = sym (ap (λ (xs : List Entry). length xs) c.self.view_is) ∙ entries-length c.self.inside.bytes.items c.self.inside.count in
    omega (arith, c.requires.room, long)

pub invariant_of-self-2 : goal.invariant_of-self-2
invariant_of-self-2 c =
    let P : List ℕ → Type 0 = λ b. ArePacked b (c.self.inside.count + 1) in
    subst P (sym c.in_ok-extend_from_slice.ensures.items) (packed-push c.self.inside.bytes.items c.pack.result c.self.inside.count c.args.entry.now c.self.invariant c.pack.ensures.written)

pub returns-clause-pushed : goal.returns-clause-pushed
returns-clause-pushed c =
    ap (λ (b : List ℕ). entries_in b (c.self.inside.count + 1)) c.in_ok-extend_from_slice.ensures.items
    ∙ (entries-push c.self.inside.bytes.items c.pack.result c.self.inside.count c.args.entry.now c.self.invariant.size c.pack.ensures.written.size c.pack.ensures.read_again
    ∙ ap (λ (es : List Entry). es ++ c.args.entry.now ∷ []) c.self.view_is)
