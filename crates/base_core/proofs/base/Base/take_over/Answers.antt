use Rattle.std.proofs.Common.{◌≡◌, ◌<◌, ◌≤◌, ◌+◌, ◌++◌, ◌∷◌, [], ℕ, List, length, sym, ap, ◌∙◌, subst, arith}
use Rattle.block_store.specs.Placing.{end_after, padding}
use Rattle.index_entry.specs.Entry.{IsEntry}
use Rattle.index_entry.specs.declared.entry.Entry.{Entry}
use Rattle.name_base.specs.NameLists.{NameLists}
use Rattle.base_core.specs.Drafts.{TakesOver, placed_entry}
use Rattle.base_core.specs.Edits.{names_with}
use Rattle.base_core.specs.Entries.{head_of}
use Rattle.base_core.specs.Placing.{AreIds}
use Rattle.base_core.specs.Represents.{IsSound, Kept}
use Rattle.base_core.proofs.NamingLaws.{cut-back}
use Rattle.base_core.proofs.TakeLaws.{entry-placed, taken-fields, taken-sound, takes}
use Rattle.base_core.proofs.base.Base.take_over.Goals as goal

pub push-requires-clause-fields : goal.push-requires-clause-fields
push-requires-clause-fields c =
    subst (λ (e : Entry). IsEntry e) (sym c.placed_entry-placed.ensures.entry)
    (taken-fields c.take_names.new.names (head_of c.names.result.now c.entry-entry.result []) c.entry-entry.result c.in_ok-ids.ids _ c.in_ok-ids.ensures.ids c.take_names.ensures.sound c.entry-entry.ensures.kept.fields)

pub invariant_of-self-in-Err : goal.invariant_of-self-in-Err
invariant_of-self-in-Err c =
    let names = c.cut_names.ensures.cut ∙ cut-back c.take_names.new.names c.self.inside.names c.counts_of-counts.result c.take_names.ensures.holds c.counts_of-counts.ensures.counts in
    rw (names, c.in-Err.ensures.unchanged) c.self.invariant

pub returns-in-Err-clause-unchanged : goal.returns-in-Err-clause-unchanged
returns-in-Err-clause-unchanged c =
    let names = c.cut_names.ensures.cut ∙ cut-back c.take_names.new.names c.self.inside.names c.counts_of-counts.result c.take_names.ensures.holds c.counts_of-counts.ensures.counts in
    rw (names, c.in-Err.ensures.unchanged) c.self.view_is

pub invariant_of-self-2 : goal.invariant_of-self-2
invariant_of-self-2 c =
    let old : Kept = record { header = c.self.inside.header; names = c.self.inside.names; entries = c.self.inside.entries; end = c.self.inside.store; unsaved = c.self.inside.unsaved } in
    let e : Entry = c.entry-entry.result in
    let from : NameLists = c.args.of.now.names in
    let pad : c.padding-pad.result ≡ padding old.end e.len = c.padding-pad.ensures.padding ∙ (ap (λ (n : ℕ). padding n c.from-len.result) c.end.ensures.end ∙ ap (λ (n : ℕ). padding old.end n) c.from-len.ensures) in
    let last : c.placed_entry-placed.result ≡ placed_entry e c.in_ok-ids.ids (old.end + padding old.end e.len) =
    entry-placed c.placed_entry-placed.result e c.in_ok-ids.ids _ (old.end + padding old.end e.len) c.placed_entry-placed.ensures.entry
    (omega (arith, pad, c.saturating_add-end.ensures, c.from.ensures, c.from-len.ensures, c.end-2.ensures.end, c.if-end-gt-LONGEST_FILE.false)) in
    let entries : c.push.new.self ≡ old.entries ++ placed_entry e c.in_ok-ids.ids (old.end + padding old.end e.len) ∷ [] = c.in_default.ensures.pushed ∙ ap (λ (x : Entry). old.entries ++ x ∷ []) last in
    let end : c.new-self-inside.result ≡ end_after old.end e.len =
    c.new-self-inside.ensures.end ∙ omega (arith, pad, c.saturating_add-end.ensures, c.from.ensures, c.from-len.ensures, c.end-2.ensures.end, c.if-end-gt-LONGEST_FILE.false) in
    let ids : AreIds c.take_names.new.names (head_of from e []) c.in_ok-ids.ids = subst (λ (n : NameLists). AreIds c.take_names.new.names (head_of n e []) c.in_ok-ids.ids) c.names.ensures.names c.in_ok-ids.ensures.ids in
    let before : length c.self.inside.entries ≡ length c.args.self.now.entries = ap (λ (k : Kept). length k.entries) c.self.view_is in
    let few : old.header.games < 16777214 =
    omega (arith, before, c.requires.few, c.requires.there, c.header-header.ensures.sound.count, c.header-header.ensures.sound.header.games, c.self.invariant.count) in
    let short : e.len ≤ 131071 = omega (arith, c.entry-entry.ensures.kept.fields.len) in
    let done = taken-sound from c.args.of.now.end old c.take_names.new.names (head_of from e []) e c.in_ok-ids.ids c.self.invariant c.take_names.ensures.sound c.take_names.ensures.holds ids c.entry-entry.ensures.kept short few in
    let G : List Entry → ℕ → Type 0 = λ es n. IsSound (record { header = record old.header { games = old.header.games + 1 }; names = c.take_names.new.names; entries = es; end = n; unsaved = old.unsaved }) in
    subst (λ (n : ℕ). G c.push.new.self n) (sym end) (subst (λ (es : List Entry). G es (end_after old.end e.len)) (sym entries) done)

pub returns-clause-taken : goal.returns-clause-taken
returns-clause-taken c =
    let old : Kept = record { header = c.self.inside.header; names = c.self.inside.names; entries = c.self.inside.entries; end = c.self.inside.store; unsaved = c.self.inside.unsaved } in
    let e : Entry = c.entry-entry.result in
    let from : NameLists = c.args.of.now.names in
    let pad : c.padding-pad.result ≡ padding old.end e.len = c.padding-pad.ensures.padding ∙ (ap (λ (n : ℕ). padding n c.from-len.result) c.end.ensures.end ∙ ap (λ (n : ℕ). padding old.end n) c.from-len.ensures) in
    let last : c.placed_entry-placed.result ≡ placed_entry e c.in_ok-ids.ids (old.end + padding old.end e.len) =
    entry-placed c.placed_entry-placed.result e c.in_ok-ids.ids _ (old.end + padding old.end e.len) c.placed_entry-placed.ensures.entry
    (omega (arith, pad, c.saturating_add-end.ensures, c.from.ensures, c.from-len.ensures, c.end-2.ensures.end, c.if-end-gt-LONGEST_FILE.false)) in
    let entries : c.push.new.self ≡ old.entries ++ placed_entry e c.in_ok-ids.ids (old.end + padding old.end e.len) ∷ [] = c.in_default.ensures.pushed ∙ ap (λ (x : Entry). old.entries ++ x ∷ []) last in
    let end : c.new-self-inside.result ≡ end_after old.end e.len =
    c.new-self-inside.ensures.end ∙ omega (arith, pad, c.saturating_add-end.ensures, c.from.ensures, c.from-len.ensures, c.end-2.ensures.end, c.if-end-gt-LONGEST_FILE.false) in
    let named : c.take_names.new.names ≡ names_with (head_of from e []) old.names = c.in_ok-ids.ensures.names ∙ ap (λ (n : NameLists). names_with (head_of n e []) old.names) c.names.ensures.names in
    let ids : AreIds c.take_names.new.names (head_of from e []) c.in_ok-ids.ids = subst (λ (n : NameLists). AreIds c.take_names.new.names (head_of n e []) c.in_ok-ids.ids) c.names.ensures.names c.in_ok-ids.ensures.ids in
    let done = takes c.args.i c.args.of.now old c.take_names.new.names e c.in_ok-ids.ids c.entry-entry.ensures.at c.self.invariant c.take_names.ensures.holds named ids in
    let N : List Entry → ℕ → Kept = λ es n. record { header = record old.header { games = old.header.games + 1 }; names = c.take_names.new.names; entries = es; end = n; unsaved = old.unsaved } in
    let P : Kept → Type 0 = λ k. TakesOver c.args.i c.args.of.now old k in
    let Q : Kept → Type 0 = λ k. TakesOver c.args.i c.args.of.now k (N c.push.new.self c.new-self-inside.result) in
    subst Q c.self.view_is (subst (λ (n : ℕ). P (N c.push.new.self n)) (sym end) (subst (λ (es : List Entry). P (N es (end_after old.end e.len))) (sym entries) done))
