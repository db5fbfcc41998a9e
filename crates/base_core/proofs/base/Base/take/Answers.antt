use Rattle.std.proofs.Common.{◌≡◌, ◌<◌, ◌≤◌, ◌+◌, ◌++◌, ◌∷◌, [], ℕ, List, Some, length, sym, ap, ◌∙◌, subst, arith}
use Rattle.block_store.specs.Placing.{end_after, longest_file, padding}
use Rattle.index_entry.specs.Entry.{IsEntry}
use Rattle.index_entry.specs.declared.entry.Entry.{Entry}
use Rattle.name_base.specs.NameLists.{AreSound, NameLists}
use Rattle.name_base.specs.PartNames.{filled_names}
use Rattle.base_core.specs.declared.fault.What.TheVariants.{File}
use Rattle.base_core.specs.Drafts.{Takes, placed_entry}
use Rattle.base_core.specs.Edited.{full_names, or_file}
use Rattle.base_core.specs.Edits.{names_with}
use Rattle.base_core.specs.Entries.{head_of}
use Rattle.base_core.specs.Represents.{IsSound, Kept}
use Rattle.base_core.proofs.NamingLaws.{cut-back}
use Rattle.base_core.proofs.TakeLaws.{entry-placed, given-sound, over-file, taken-fields, takes-in}
use Rattle.base_core.proofs.base.Base.take.Goals as goal

pub returns-then-end-gt-LONGEST_FILE-clause-why : goal.returns-then-end-gt-LONGEST_FILE-clause-why
returns-then-end-gt-LONGEST_FILE-clause-why c =
    let old : Kept = record { header = c.self.inside.header; names = c.self.inside.names; entries = c.self.inside.entries; end = c.self.inside.store; unsaved = c.self.inside.unsaved } in
    let e : Entry = c.args.e.now in
    let head = head_of (filled_names c.args.of.now) e [] in
    let pad : c.padding-pad.result ≡ padding old.end e.len = c.padding-pad.ensures.padding ∙ (ap (λ (n : ℕ). padding n c.from-len.result) c.end.ensures.end ∙ ap (λ (n : ℕ). padding old.end n) c.from-len.ensures) in
    let over : longest_file < end_after old.end e.len = omega (arith, pad, c.saturating_add-end.ensures, c.from.ensures, c.from-len.ensures, c.end-2.ensures.end, c.if-end-gt-LONGEST_FILE.true) in
    let S : NameLists → Type 0 = λ n. AreSound n in
    let K : Kept → Type 0 = λ k. or_file (full_names (names_with head k.names)) (end_after k.end e.len) ≡ Some File in
    subst K c.self.view_is (over-file (names_with head old.names) (end_after old.end e.len) (subst S c.in_ok-ids.ensures.names c.take_part.ensures.sound) over)

pub push-requires-clause-fields : goal.push-requires-clause-fields
push-requires-clause-fields c =
    subst (λ (e : Entry). IsEntry e) (sym c.placed_entry-placed.ensures.entry)
    (taken-fields c.take_part.new.names (head_of (filled_names c.args.of.now) c.args.e.now []) c.args.e.now c.in_ok-ids.ids _ c.in_ok-ids.ensures.ids c.take_part.ensures.sound c.requires.fields)

pub invariant_of-self-in-Err : goal.invariant_of-self-in-Err
invariant_of-self-in-Err c =
    let names = c.cut_names-in-Err.ensures.cut ∙ cut-back c.take_part.new.names c.self.inside.names c.counts_of-counts.result c.take_part.ensures.holds c.counts_of-counts.ensures.counts in
    rw (names, c.in-Err.ensures.unchanged) c.self.invariant

pub returns-in-Err-clause-unchanged : goal.returns-in-Err-clause-unchanged
returns-in-Err-clause-unchanged c =
    let names = c.cut_names-in-Err.ensures.cut ∙ cut-back c.take_part.new.names c.self.inside.names c.counts_of-counts.result c.take_part.ensures.holds c.counts_of-counts.ensures.counts in
    rw (names, c.in-Err.ensures.unchanged) c.self.view_is

pub invariant_of-self-2 : goal.invariant_of-self-2
invariant_of-self-2 c =
    let old : Kept = record { header = c.self.inside.header; names = c.self.inside.names; entries = c.self.inside.entries; end = c.self.inside.store; unsaved = c.self.inside.unsaved } in
    let e : Entry = c.args.e.now in
    let pad : c.padding-pad.result ≡ padding old.end e.len = c.padding-pad.ensures.padding ∙ (ap (λ (n : ℕ). padding n c.from-len.result) c.end.ensures.end ∙ ap (λ (n : ℕ). padding old.end n) c.from-len.ensures) in
    let last : c.placed_entry-placed.result ≡ placed_entry e c.in_ok-ids.ids (old.end + padding old.end e.len) =
    entry-placed c.placed_entry-placed.result e c.in_ok-ids.ids _ (old.end + padding old.end e.len) c.placed_entry-placed.ensures.entry
    (omega (arith, pad, c.saturating_add-end.ensures, c.from.ensures, c.from-len.ensures, c.end-2.ensures.end, c.if-end-gt-LONGEST_FILE.false)) in
    let entries : c.push.new.self ≡ old.entries ++ placed_entry e c.in_ok-ids.ids (old.end + padding old.end e.len) ∷ [] = c.in_default.ensures.pushed ∙ ap (λ (x : Entry). old.entries ++ x ∷ []) last in
    let end : c.new-self-inside.result ≡ end_after old.end e.len =
    c.new-self-inside.ensures.end ∙ omega (arith, pad, c.saturating_add-end.ensures, c.from.ensures, c.from-len.ensures, c.end-2.ensures.end, c.if-end-gt-LONGEST_FILE.false) in
    let before : length c.self.inside.entries ≡ length c.args.self.now.entries = ap (λ (k : Kept). length k.entries) c.self.view_is in
    let few : old.header.games < 16777214 = omega (arith, before, c.requires.few, c.self.invariant.count) in
    let short : e.len ≤ 131071 = omega (arith, c.requires.fields.len) in
    let done = given-sound old c.take_part.new.names (head_of (filled_names c.args.of.now) e []) e c.in_ok-ids.ids c.self.invariant c.take_part.ensures.sound c.take_part.ensures.holds c.in_ok-ids.ensures.ids c.requires.fields c.requires.homes short few in
    let G : List Entry → ℕ → Type 0 = λ es n. IsSound (record { header = record old.header { games = old.header.games + 1 }; names = c.take_part.new.names; entries = es; end = n; unsaved = old.unsaved }) in
    subst (λ (n : ℕ). G c.push.new.self n) (sym end) (subst (λ (es : List Entry). G es (end_after old.end e.len)) (sym entries) done)

pub returns-clause-taken : goal.returns-clause-taken
returns-clause-taken c =
    let old : Kept = record { header = c.self.inside.header; names = c.self.inside.names; entries = c.self.inside.entries; end = c.self.inside.store; unsaved = c.self.inside.unsaved } in
    let e : Entry = c.args.e.now in
    let from = filled_names c.args.of.now in
    let pad : c.padding-pad.result ≡ padding old.end e.len = c.padding-pad.ensures.padding ∙ (ap (λ (n : ℕ). padding n c.from-len.result) c.end.ensures.end ∙ ap (λ (n : ℕ). padding old.end n) c.from-len.ensures) in
    let last : c.placed_entry-placed.result ≡ placed_entry e c.in_ok-ids.ids (old.end + padding old.end e.len) =
    entry-placed c.placed_entry-placed.result e c.in_ok-ids.ids _ (old.end + padding old.end e.len) c.placed_entry-placed.ensures.entry
    (omega (arith, pad, c.saturating_add-end.ensures, c.from.ensures, c.from-len.ensures, c.end-2.ensures.end, c.if-end-gt-LONGEST_FILE.false)) in
    let entries : c.push.new.self ≡ old.entries ++ placed_entry e c.in_ok-ids.ids (old.end + padding old.end e.len) ∷ [] = c.in_default.ensures.pushed ∙ ap (λ (x : Entry). old.entries ++ x ∷ []) last in
    let end : c.new-self-inside.result ≡ end_after old.end e.len =
    c.new-self-inside.ensures.end ∙ omega (arith, pad, c.saturating_add-end.ensures, c.from.ensures, c.from-len.ensures, c.end-2.ensures.end, c.if-end-gt-LONGEST_FILE.false) in
    let done = takes-in from c.take_part.new.names old e c.in_ok-ids.ids c.self.invariant c.take_part.ensures.holds c.in_ok-ids.ensures.names c.in_ok-ids.ensures.ids in
    let N : List Entry → ℕ → Kept = λ es n. record { header = record old.header { games = old.header.games + 1 }; names = c.take_part.new.names; entries = es; end = n; unsaved = old.unsaved } in
    let P : Kept → Type 0 = λ k. Takes from e old k in
    let Q : Kept → Type 0 = λ k. Takes from e k (N c.push.new.self c.new-self-inside.result) in
    subst Q c.self.view_is (subst P (sym (ap (λ (es : List Entry). N es c.new-self-inside.result) entries ∙ ap (λ (n : ℕ). N (old.entries ++ placed_entry e c.in_ok-ids.ids (old.end + padding old.end e.len) ∷ []) n) end)) done)
