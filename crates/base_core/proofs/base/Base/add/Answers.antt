use Rattle.std.proofs.Common.{◌≡◌, ◌<◌, ◌≤◌, ◌+◌, ◌++◌, ◌∷◌, [], ℕ, true, List, length, Option, None, Some, refl, sym, ap, ◌∙◌, subst, arith, rules}
use Rattle.std.proofs.lemmas.List.{length_push}
use Rattle.block_store.specs.Placing.{end_after, padding}
use Rattle.game_codec.specs.Record.{IsRecord}
use Rattle.game_codec.specs.Written.{longest, written_record}
use Rattle.game_tree.specs.declared.head.Tag.{Tag}
use Rattle.index_entry.specs.declared.entry.Entry.{Entry}
use Rattle.name_base.specs.NameLists.{AreSound, NameLists}
use Rattle.base_core.specs.declared.fault.What.{What}
use Rattle.base_core.specs.Edited.{Places, WhyNotPlaced, full_names, or_file}
use Rattle.base_core.specs.Edits.{added, end_with, names_with}
use Rattle.base_core.specs.Means.{HoldsNames}
use Rattle.base_core.specs.Placing.{AreIds, IfFull, entry_with}
use Rattle.base_core.specs.Represents.{IsSound, Kept}
use Rattle.base_core.proofs.GrowLaws.{holds-own}
use Rattle.base_core.proofs.NamingLaws.{cut-back, none-full}
use Rattle.base_core.proofs.PlaceLaws.{adds, entry-fields, entry-is, entry-kept, full-file, full-games, last-sound, made-fields, why-names}
use Rattle.base_core.proofs.base.Base.add.Goals as goal

pub returns-then-i-ge-MOST_GAMES-clause-why : goal.returns-then-i-ge-MOST_GAMES-clause-why
returns-then-i-ge-MOST_GAMES-clause-why g c =
    let written = c.in_ok-encoded.ensures.written ∙ ap (λ (ts : List Tag). written_record ts c.args.g.now) c.as_slice.ensures.same in
    let short : length (written_record c.args.head.now.tags c.args.g.now) ≤ longest = subst (λ (b : List ℕ). length b ≤ longest) written c.in_ok-encoded.ensures.fits in
    let entries : length c.self.inside.entries ≡ length c.args.self.now.entries = ap (λ (k : Kept). length k.entries) c.self.view_is in
    let many : 16777214 < length c.args.self.now.entries + 1 = omega (arith, c.if-i-ge-MOST_GAMES.true, c.len-i.ensures.len, entries) in
    (short, full-games (length c.args.self.now.entries + 1) (names_with c.args.head.now c.args.self.now.names) (end_with c.args.head.now c.args.g.now c.args.self.now.end) many)

pub returns-in_err-ids-clause-why : goal.returns-in_err-ids-clause-why
returns-in_err-ids-clause-why g c =
    let written = c.in_ok-encoded.ensures.written ∙ ap (λ (ts : List Tag). written_record ts c.args.g.now) c.as_slice.ensures.same in
    let short : length (written_record c.args.head.now.tags c.args.g.now) ≤ longest = subst (λ (b : List ℕ). length b ≤ longest) written c.in_ok-encoded.ensures.fits in
    let entries : length c.self.inside.entries ≡ length c.args.self.now.entries = ap (λ (k : Kept). length k.entries) c.self.view_is in
    let few : length c.args.self.now.entries + 1 ≤ 16777214 = omega (arith, c.if-i-ge-MOST_GAMES.false, c.len-i.ensures.len, entries) in
    let N : Kept → Type 0 = λ k. IfFull (λ w. full_names (names_with c.args.head.now k.names) ≡ Some w) c.in_err-ids.field-0.0 in
    let told = why-names (length (written_record c.args.head.now.tags c.args.g.now)) (length c.args.self.now.entries + 1) (names_with c.args.head.now c.args.self.now.names)
    (end_with c.args.head.now c.args.g.now c.args.self.now.end) c.in_err-ids.field-0.0 short few (subst N c.self.view_is c.in_err-ids.ensures.why) in
    search (rules, told)

pub add_entry-requires-clause-fields : goal.add_entry-requires-clause-fields
add_entry-requires-clause-fields g c =
    let written = c.in_ok-encoded.ensures.written ∙ ap (λ (ts : List Tag). written_record ts c.args.g.now) c.as_slice.ensures.same in
    let short : length c.in_ok-encoded.encoded.record.items ≤ 131071 = c.in_ok-encoded.ensures.fits in
    let long : c.len.result ≡ length c.in_ok-encoded.encoded.record.items = c.len.ensures ∙ (sym c.as_slice-2.ensures.len ∙ ap (λ (b : List ℕ). length b) c.as_slice-2.ensures.value) in
    made-fields c.entry_with-entry.result c.add_names.new.names c.args.head.now c.in_ok-ids.ids c.sig_ending.result c.len.result c.entry_with-entry.ensures.entry c.in_ok-ids.ensures.ids c.add_names.ensures.sound
    c.requires.bounded c.requires.settled c.sig_ending.ensures.bounded (omega (arith, long, short))

pub invariant_of-self-in-Err : goal.invariant_of-self-in-Err
invariant_of-self-in-Err g c =
    let names = c.cut_names.ensures.cut ∙ cut-back c.add_names.new.names c.self.inside.names c.counts_of-counts.result c.add_names.ensures.holds c.counts_of-counts.ensures.counts in
    rw (names, c.in-Err.ensures.entries, c.in-Err.ensures.as_ended) c.self.invariant

pub returns-in-Err-clause-why : goal.returns-in-Err-clause-why
returns-in-Err-clause-why g c =
    let head = c.args.head.now in
    let bytes = written_record head.tags c.args.g.now in
    let written = c.in_ok-encoded.ensures.written ∙ ap (λ (ts : List Tag). written_record ts c.args.g.now) c.as_slice.ensures.same in
    let slice = c.as_slice-2.ensures.value ∙ written in
    let entries : length c.self.inside.entries ≡ length c.args.self.now.entries = ap (λ (k : Kept). length k.entries) c.self.view_is in
    let few : length c.args.self.now.entries + 1 ≤ 16777214 = omega (arith, c.if-i-ge-MOST_GAMES.false, c.len-i.ensures.len, entries) in
    let names : c.add_names.new.names ≡ names_with head c.args.self.now.names = c.in_ok-ids.ensures.names ∙ ap (λ (k : Kept). names_with head k.names) c.self.view_is in
    let S : NameLists → Type 0 = λ n. AreSound n in
    let full = full-file (length c.args.self.now.entries + 1) (names_with head c.args.self.now.names) (end_with head c.args.g.now c.args.self.now.end) few
    (none-full (names_with head c.args.self.now.names) (subst S names c.add_names.ensures.sound)) in
    let B : List ℕ → Type 0 = λ b. WhyNotPlaced (length b) (or_file None (end_after c.self.inside.store (length b))) c.in-Err.error in
    let K : Kept → Type 0 = λ k. WhyNotPlaced (length bytes) (or_file None (end_after k.end (length bytes))) c.in-Err.error in
    let O : Option What → Type 0 = λ o. WhyNotPlaced (length bytes) o c.in-Err.error in
    subst O (sym full) (subst K c.self.view_is (subst B slice c.in-Err.ensures.why))

pub returns-in-Err-clause-unchanged : goal.returns-in-Err-clause-unchanged
returns-in-Err-clause-unchanged g c =
    let names = c.cut_names.ensures.cut ∙ cut-back c.add_names.new.names c.self.inside.names c.counts_of-counts.result c.add_names.ensures.holds c.counts_of-counts.ensures.counts in
    rw (names, c.in-Err.ensures.entries, c.in-Err.ensures.as_ended) c.self.view_is

pub returns-in-Err-clause-names : goal.returns-in-Err-clause-names
returns-in-Err-clause-names g c =
    let names = c.cut_names.ensures.cut ∙ cut-back c.add_names.new.names c.self.inside.names c.counts_of-counts.result c.add_names.ensures.holds c.counts_of-counts.ensures.counts in
    let H : NameLists → Type 0 = λ n. HoldsNames n c.args.self.now.names in
    subst H (sym (names ∙ ap (λ (k : Kept). k.names) c.self.view_is)) (holds-own c.args.self.now.names)

pub invariant_of-self-2 : goal.invariant_of-self-2
invariant_of-self-2 g c =
    let head = c.args.head.now in
    let old : Kept = record { header = c.self.inside.header; names = c.self.inside.names; entries = c.self.inside.entries; end = c.self.inside.store; unsaved = c.self.inside.unsaved } in
    let bytes = c.as_slice-2.result.now in
    let offset = old.end + padding old.end (length bytes) in
    let long : c.len.result ≡ length bytes = c.len.ensures ∙ sym c.as_slice-2.ensures.len in
    let short : length bytes ≤ 131071 = subst (λ (b : List ℕ). length b ≤ 131071) (sym c.as_slice-2.ensures.value) c.in_ok-encoded.ensures.fits in
    let entry = entry-is c.entry_with-entry.result c.in_ok-ids.ids head c.sig_ending.result bytes bytes c.len.result old.end c.entry_with-entry.ensures.entry long refl in
    let e = entry_with c.in_ok-ids.ids head c.sig_ending.result (length bytes) offset in
    let entries : c.add_entry.new.entries ≡ old.entries ++ e ∷ [] = c.in_default.ensures.added ∙ ap (λ (x : Entry). old.entries ++ x ∷ []) entry in
    let fields = entry-fields c.add_names.new.names head c.in_ok-ids.ids c.sig_ending.result (length bytes) offset c.in_ok-ids.ensures.ids c.add_names.ensures.sound c.requires.bounded c.requires.settled c.sig_ending.ensures.bounded short in
    let kept = entry-kept c.add_names.new.names c.add_entry.new.store head c.in_ok-ids.ids c.sig_ending.result (length bytes) offset c.in_ok-ids.ensures.ids fields c.sig_ending.ensures.bounded c.in_default.ensures.in_block in
    let longer : old.end ≤ c.add_entry.new.store = omega (arith, c.in_default.ensures.ended) in
    let few : old.header.games < 16777214 = omega (arith, c.if-i-ge-MOST_GAMES.false, c.len-i.ensures.len, c.self.invariant.count) in
    let G : List Entry → Type 0 = λ es. IsSound (record { header = record old.header { games = old.header.games + 1 }; names = c.add_names.new.names; entries = es; end = c.add_entry.new.store; unsaved = true }) in
    subst G (sym entries) (last-sound old c.add_names.new.names e c.add_entry.new.store c.self.invariant c.add_names.ensures.sound c.add_names.ensures.holds longer few kept)

pub returns-clause-added : goal.returns-clause-added
returns-clause-added g c =
    let head = c.args.head.now in
    let game = c.args.g.now in
    let old : Kept = record { header = c.self.inside.header; names = c.self.inside.names; entries = c.self.inside.entries; end = c.self.inside.store; unsaved = c.self.inside.unsaved } in
    let bytes = written_record head.tags game in
    let written : c.in_ok-encoded.encoded.record.items ≡ bytes = c.in_ok-encoded.ensures.written ∙ ap (λ (ts : List Tag). written_record ts game) c.as_slice.ensures.same in
    let slice : c.as_slice-2.result.now ≡ bytes = c.as_slice-2.ensures.value ∙ written in
    let long : c.len.result ≡ length c.as_slice-2.result.now = c.len.ensures ∙ sym c.as_slice-2.ensures.len in
    let e = entry_with c.in_ok-ids.ids head c.sig_ending.result (length bytes) (old.end + padding old.end (length bytes)) in
    let entry = entry-is c.entry_with-entry.result c.in_ok-ids.ids head c.sig_ending.result bytes c.as_slice-2.result.now c.len.result old.end c.entry_with-entry.ensures.entry long slice in
    let entries : c.add_entry.new.entries ≡ old.entries ++ e ∷ [] = c.in_default.ensures.added ∙ ap (λ (x : Entry). old.entries ++ x ∷ []) entry in
    let names : c.add_names.new.names ≡ names_with head old.names = c.in_ok-ids.ensures.names in
    let end : c.add_entry.new.store ≡ end_with head game old.end = c.in_default.ensures.ended ∙ ap (λ (b : List ℕ). end_after old.end (length b)) slice in
    let H : NameLists → Type 0 = λ n. HoldsNames n old.names in
    let A : NameLists → Type 0 = λ n. AreIds n head c.in_ok-ids.ids in
    let R : List ℕ → List Tag → Type 0 = λ b ts. IsRecord b ts game in
    let read = subst (λ (ts : List Tag). R bytes ts) c.as_slice.ensures.same (subst (λ (b : List ℕ). R b c.as_slice.result.now) written c.in_ok-encoded.ensures.read_again) in
    let done = adds old head game c.in_ok-ids.ids c.sig_ending.result c.self.invariant (subst H names c.add_names.ensures.holds) (subst A names c.in_ok-ids.ensures.ids) c.requires.settled c.sig_ending.ensures.signature read in
    let N : NameLists → List Entry → ℕ → Kept = λ n es last. record { header = record old.header { games = old.header.games + 1 }; names = n; entries = es; end = last; unsaved = true } in
    let new : N c.add_names.new.names c.add_entry.new.entries c.add_entry.new.store ≡ N (names_with head old.names) (old.entries ++ e ∷ []) (end_with head game old.end) =
    ap (λ (n : NameLists). N n c.add_entry.new.entries c.add_entry.new.store) names
    ∙ (ap (λ (es : List Entry). N (names_with head old.names) es c.add_entry.new.store) entries ∙ ap (λ (n : ℕ). N (names_with head old.names) (old.entries ++ e ∷ []) n) end)
    in
    let P : Kept → Type 0 = λ k. Places bytes (added head game) old k in
    let Q : Kept → Type 0 = λ k. Places bytes (added head game) k (N c.add_names.new.names c.add_entry.new.entries c.add_entry.new.store) in
    subst Q c.self.view_is (subst P (sym new) done)

pub returns-clause-count : goal.returns-clause-count
returns-clause-count g c =
    ap (λ (es : List Entry). length es) c.in_default.ensures.added ∙ (length_push c.self.inside.entries _ ∙ ap (λ (k : Kept). length k.entries + 1) c.self.view_is)

pub returns-clause-room : goal.returns-clause-room
returns-clause-room g c =
    let head = c.args.head.now in
    let bytes = written_record head.tags c.args.g.now in
    let written = c.in_ok-encoded.ensures.written ∙ ap (λ (ts : List Tag). written_record ts c.args.g.now) c.as_slice.ensures.same in
    let slice = c.as_slice-2.ensures.value ∙ written in
    let entries : length c.self.inside.entries ≡ length c.args.self.now.entries = ap (λ (k : Kept). length k.entries) c.self.view_is in
    let few : length c.args.self.now.entries + 1 ≤ 16777214 = omega (arith, c.if-i-ge-MOST_GAMES.false, c.len-i.ensures.len, entries) in
    let names : c.add_names.new.names ≡ names_with head c.args.self.now.names = c.in_ok-ids.ensures.names ∙ ap (λ (k : Kept). names_with head k.names) c.self.view_is in
    let S : NameLists → Type 0 = λ n. AreSound n in
    let full = full-file (length c.args.self.now.entries + 1) (names_with head c.args.self.now.names) (end_with head c.args.g.now c.args.self.now.end) few
    (none-full (names_with head c.args.self.now.names) (subst S names c.add_names.ensures.sound)) in
    let B : List ℕ → Type 0 = λ b. or_file None (end_after c.self.inside.store (length b)) ≡ None in
    let K : Kept → Type 0 = λ k. or_file None (end_after k.end (length bytes)) ≡ None in
    record {
      short = subst (λ (b : List ℕ). length b ≤ longest) written c.in_ok-encoded.ensures.fits;
      room = full ∙ subst K c.self.view_is (subst B slice c.in_default.ensures.room);
    }
