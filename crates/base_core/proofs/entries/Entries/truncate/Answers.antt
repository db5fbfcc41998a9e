use Rattle.std.proofs.Common.{◌≡◌, ◌≤◌, ℕ, List, length, take, sym, ap, ◌∙◌, subst}
use Rattle.index_entry.specs.declared.entry.Entry.{Entry}
use Rattle.base_core.specs.Packing.{ArePacked, entries_in}
use Rattle.base_core.proofs.PackLaws.{entries-front, entries-length, packed-front}
use Rattle.base_core.proofs.entries.Entries.truncate.Goals as goal

pub invariant_of-self : goal.invariant_of-self
invariant_of-self c =
    let long : length c.args.self.now ≡ c.self.inside.count = sym (ap (λ (xs : List Entry). length xs) c.self.view_is) ∙ entries-length c.self.inside.bytes.items c.self.inside.count in
    let few : c.args.count ≤ c.self.inside.count = subst (λ n. c.args.count ≤ n) long c.requires.within in
    let P : List ℕ → Type 0 = λ b. ArePacked b c.args.count in
    subst P (sym c.truncate.ensures.items) (packed-front c.self.inside.bytes.items c.self.inside.count c.args.count c.self.invariant few)

pub returns : goal.returns
returns c =
    let long : length c.args.self.now ≡ c.self.inside.count = sym (ap (λ (xs : List Entry). length xs) c.self.view_is) ∙ entries-length c.self.inside.bytes.items c.self.inside.count in
    let few : c.args.count ≤ c.self.inside.count = subst (λ n. c.args.count ≤ n) long c.requires.within in
    record {
      kept = ap (λ (b : List ℕ). entries_in b c.args.count) c.truncate.ensures.items
          ∙ (entries-front c.self.inside.bytes.items c.self.inside.count c.args.count c.self.invariant.size few ∙ ap (λ (es : List Entry). take c.args.count es) c.self.view_is);
    }
