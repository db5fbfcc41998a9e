use Rattle.std.proofs.Common.{◌≡◌, ◌<◌, ◌≤◌, ◌+◌, ℕ, true, List, length, slice_get, slice_set, Option, None, Some, refl, sym, ap, ◌∙◌, subst, arith, rules}
use Rattle.block_store.specs.Placing.{end_after, padding}
use Rattle.game_codec.specs.Record.{IsRecord}
use Rattle.game_codec.specs.Written.{longest, written_record}
use Rattle.game_tree.specs.declared.head.Tag.{Tag}
use Rattle.index_entry.specs.Entry.{IsEntry}
use Rattle.index_entry.specs.declared.entry.Entry.{Entry}
use Rattle.name_base.specs.NameLists.{AreSound, NameLists}
use Rattle.base_core.specs.declared.fault.What.{What}
use Rattle.base_core.specs.Edited.{Places, WhyNotPlaced, first_full, full_names, or_file}
use Rattle.base_core.specs.Edits.{end_with, game_replaced, names_with}
use Rattle.base_core.specs.Means.{HoldsNames}
use Rattle.base_core.specs.Placing.{AreIds, IfFull, entry_with}
use Rattle.base_core.specs.Represents.{IsSound, Kept}
use Rattle.base_core.proofs.GrowLaws.{holds-own}
use Rattle.base_core.proofs.Lists.{get-set_other}
use Rattle.base_core.proofs.NamingLaws.{cut-back, none-full}
use Rattle.base_core.proofs.PlaceLaws.{entry-fields, entry-is, entry-kept, entry-sound, few-kept, full-file, not-replaced, replaces, why-names}
use Rattle.base_core.proofs.base.Base.replace_game.Goals as goal

pub returns-in_err-ids-clause-why : goal.returns-in_err-ids-clause-why
returns-in_err-ids-clause-why g c =
    let written = c.in_ok-encoded.ensures.written ∙ ap (λ (ts : List Tag). written_record ts c.args.g.now) c.as_slice.ensures.same in
    let short : length (written_record c.args.head.now.tags c.args.g.now) ≤ longest = subst (λ (b : List ℕ). length b ≤ longest) written c.in_ok-encoded.ensures.fits in
    let sound : IsSound c.args.self.now = subst (λ (k : Kept). IsSound k) c.self.view_is c.self.invariant in
    let N : Kept → Type 0 = λ k. IfFull (λ w. full_names (names_with c.args.head.now k.names) ≡ Some w) c.in_err-ids.field-0.0 in
    let told = not-replaced c.args.self.now c.args.i (length (written_record c.args.head.now.tags c.args.g.now))
    (first_full (length c.args.self.now.entries) (names_with c.args.head.now c.args.self.now.names) (end_with c.args.head.now c.args.g.now c.args.self.now.end)) c.in_err-ids.field-0.0
    (why-names (length (written_record c.args.head.now.tags c.args.g.now)) (length c.args.self.now.entries) (names_with c.args.head.now c.args.self.now.names)
    (end_with c.args.head.now c.args.g.now c.args.self.now.end) c.in_err-ids.field-0.0 short (few-kept c.args.self.now sound) (subst N c.self.view_is c.in_err-ids.ensures.why))
    in
    search (rules, told)

pub invariant_of-self-in-Err : goal.invariant_of-self-in-Err
invariant_of-self-in-Err g c =
    let names = c.cut_names.ensures.cut ∙ cut-back c.add_names.new.names c.self.inside.names c.counts_of-counts.result c.add_names.ensures.holds c.counts_of-counts.ensures.counts in
    rw (names, c.in-Err.ensures.as_ended) c.self.invariant

pub returns-in-Err-clause-why : goal.returns-in-Err-clause-why
returns-in-Err-clause-why g c =
    let head = c.args.head.now in
    let bytes = written_record head.tags c.args.g.now in
    let written = c.in_ok-encoded.ensures.written ∙ ap (λ (ts : List Tag). written_record ts c.args.g.now) c.as_slice.ensures.same in
    let slice = c.as_slice-2.ensures.value ∙ written in
    let sound : IsSound c.args.self.now = subst (λ (k : Kept). IsSound k) c.self.view_is c.self.invariant in
    let names : c.add_names.new.names ≡ names_with head c.args.self.now.names = c.in_ok-ids.ensures.names ∙ ap (λ (k : Kept). names_with head k.names) c.self.view_is in
    let S : NameLists → Type 0 = λ n. AreSound n in
    let full = full-file (length c.args.self.now.entries) (names_with head c.args.self.now.names) (end_with head c.args.g.now c.args.self.now.end) (few-kept c.args.self.now sound)
    (none-full (names_with head c.args.self.now.names) (subst S names c.add_names.ensures.sound)) in
    let B : List ℕ → Type 0 = λ b. WhyNotPlaced (length b) (or_file None (end_after c.self.inside.store (length b))) c.in-Err.error in
    let K : Kept → Type 0 = λ k. WhyNotPlaced (length bytes) (or_file None (end_after k.end (length bytes))) c.in-Err.error in
    let O : Option What → Type 0 = λ o. WhyNotPlaced (length bytes) o c.in-Err.error in
    not-replaced c.args.self.now c.args.i (length bytes) (first_full (length c.args.self.now.entries) (names_with head c.args.self.now.names) (end_with head c.args.g.now c.args.self.now.end)) c.in-Err.error
    (subst O (sym full) (subst K c.self.view_is (subst B slice c.in-Err.ensures.why)))

pub returns-in-Err-clause-unchanged : goal.returns-in-Err-clause-unchanged
returns-in-Err-clause-unchanged g c =
    let names = c.cut_names.ensures.cut ∙ cut-back c.add_names.new.names c.self.inside.names c.counts_of-counts.result c.add_names.ensures.holds c.counts_of-counts.ensures.counts in
    rw (names, c.in-Err.ensures.as_ended) c.self.view_is

pub returns-in-Err-clause-names : goal.returns-in-Err-clause-names
returns-in-Err-clause-names g c =
    let names = c.cut_names.ensures.cut ∙ cut-back c.add_names.new.names c.self.inside.names c.counts_of-counts.result c.add_names.ensures.holds c.counts_of-counts.ensures.counts in
    let H : NameLists → Type 0 = λ n. HoldsNames n c.args.self.now.names in
    subst H (sym (names ∙ ap (λ (k : Kept). k.names) c.self.view_is)) (holds-own c.args.self.now.names)

pub set-requires-clause-fields : goal.set-requires-clause-fields
set-requires-clause-fields g c =
    let bytes = c.as_slice-2.result.now in
    let long : c.len-2.result ≡ length bytes = c.len-2.ensures ∙ sym c.as_slice-2.ensures.len in
    let short : length bytes ≤ 131071 = subst (λ (b : List ℕ). length b ≤ 131071) (sym c.as_slice-2.ensures.value) c.in_ok-encoded.ensures.fits in
    let E : Entry → Type 0 = λ e. IsEntry e in
    let O : ℕ → Type 0 = λ o. IsEntry (record c.entry_with-entry.result { offset = o }) in
    let entry = entry-is c.entry_with-entry.result c.in_ok-ids.ids c.args.head.now c.sig_ending.result bytes bytes c.len-2.result c.self.inside.store c.entry_with-entry.ensures.entry long refl in
    subst O (sym c.in-Ok.ensures.offset)
    (subst E (sym entry)
    (entry-fields c.add_names.new.names c.args.head.now c.in_ok-ids.ids c.sig_ending.result (length bytes) (c.self.inside.store + padding c.self.inside.store (length bytes)) c.in_ok-ids.ensures.ids c.add_names.ensures.sound c.requires.bounded
    c.requires.settled c.sig_ending.ensures.bounded short))

pub invariant_of-self-2 : goal.invariant_of-self-2
invariant_of-self-2 g c =
    let head = c.args.head.now in
    let old : Kept = record { header = c.self.inside.header; names = c.self.inside.names; entries = c.self.inside.entries; end = c.self.inside.store; unsaved = c.self.inside.unsaved } in
    let bytes = c.as_slice-2.result.now in
    let offset = old.end + padding old.end (length bytes) in
    let long : c.len-2.result ≡ length bytes = c.len-2.ensures ∙ sym c.as_slice-2.ensures.len in
    let short : length bytes ≤ 131071 = subst (λ (b : List ℕ). length b ≤ 131071) (sym c.as_slice-2.ensures.value) c.in_ok-encoded.ensures.fits in
    let e = entry_with c.in_ok-ids.ids head c.sig_ending.result (length bytes) offset in
    let entry : record c.entry_with-entry.result { offset = c.in-Ok.offset } ≡ e =
    ap (λ (o : ℕ). record c.entry_with-entry.result { offset = o }) c.in-Ok.ensures.offset
    ∙ entry-is c.entry_with-entry.result c.in_ok-ids.ids head c.sig_ending.result bytes bytes c.len-2.result old.end c.entry_with-entry.ensures.entry long refl
    in
    let entries : c.set.new.self ≡ slice_set old.entries c.args.i e = c.set.ensures.set ∙ ap (λ (x : Entry). slice_set old.entries c.args.i x) entry in
    let fields = entry-fields c.add_names.new.names head c.in_ok-ids.ids c.sig_ending.result (length bytes) offset c.in_ok-ids.ensures.ids c.add_names.ensures.sound c.requires.bounded c.requires.settled c.sig_ending.ensures.bounded short in
    let kept = entry-kept c.add_names.new.names c.place_record.new.store head c.in_ok-ids.ids c.sig_ending.result (length bytes) offset c.in_ok-ids.ensures.ids fields c.sig_ending.ensures.bounded c.in-Ok.ensures.in_block in
    let longer : old.end ≤ c.place_record.new.store = omega (arith, c.in-Ok.ensures.ended) in
    let G : List Entry → Type 0 = λ es. IsSound (record { header = old.header; names = c.add_names.new.names; entries = es; end = c.place_record.new.store; unsaved = true }) in
    subst G (sym entries) (entry-sound old c.args.i c.add_names.new.names e c.place_record.new.store c.self.invariant c.add_names.ensures.sound c.add_names.ensures.holds longer kept)

pub returns-clause-replaced : goal.returns-clause-replaced
returns-clause-replaced g c =
    let head = c.args.head.now in
    let game = c.args.g.now in
    let old : Kept = record { header = c.self.inside.header; names = c.self.inside.names; entries = c.self.inside.entries; end = c.self.inside.store; unsaved = c.self.inside.unsaved } in
    let bytes = written_record head.tags game in
    let written : c.in_ok-encoded.encoded.record.items ≡ bytes = c.in_ok-encoded.ensures.written ∙ ap (λ (ts : List Tag). written_record ts game) c.as_slice.ensures.same in
    let slice : c.as_slice-2.result.now ≡ bytes = c.as_slice-2.ensures.value ∙ written in
    let long : c.len-2.result ≡ length c.as_slice-2.result.now = c.len-2.ensures ∙ sym c.as_slice-2.ensures.len in
    let there : c.args.i < length old.entries = omega (arith, c.if-len-i.false, c.len.ensures.len) in
    let e = entry_with c.in_ok-ids.ids head c.sig_ending.result (length bytes) (old.end + padding old.end (length bytes)) in
    let entry : record c.entry_with-entry.result { offset = c.in-Ok.offset } ≡ e =
    ap (λ (o : ℕ). record c.entry_with-entry.result { offset = o }) c.in-Ok.ensures.offset
    ∙ entry-is c.entry_with-entry.result c.in_ok-ids.ids head c.sig_ending.result bytes c.as_slice-2.result.now c.len-2.result old.end c.entry_with-entry.ensures.entry long slice
    in
    let entries : c.set.new.self ≡ slice_set old.entries c.args.i e = c.set.ensures.set ∙ ap (λ (x : Entry). slice_set old.entries c.args.i x) entry in
    let names : c.add_names.new.names ≡ names_with head old.names = c.in_ok-ids.ensures.names in
    let end : c.place_record.new.store ≡ end_with head game old.end = c.in-Ok.ensures.ended ∙ ap (λ (b : List ℕ). end_after old.end (length b)) slice in
    let H : NameLists → Type 0 = λ n. HoldsNames n old.names in
    let A : NameLists → Type 0 = λ n. AreIds n head c.in_ok-ids.ids in
    let R : List ℕ → List Tag → Type 0 = λ b ts. IsRecord b ts game in
    let read = subst (λ (ts : List Tag). R bytes ts) c.as_slice.ensures.same (subst (λ (b : List ℕ). R b c.as_slice.result.now) written c.in_ok-encoded.ensures.read_again) in
    let done = replaces old c.args.i head game c.in_ok-ids.ids c.sig_ending.result c.self.invariant there (subst H names c.add_names.ensures.holds) (subst A names c.in_ok-ids.ensures.ids) c.requires.settled c.sig_ending.ensures.signature read in
    let N : NameLists → List Entry → ℕ → Kept = λ n es last. record { header = old.header; names = n; entries = es; end = last; unsaved = true } in
    let new : N c.add_names.new.names c.set.new.self c.place_record.new.store ≡ N (names_with head old.names) (slice_set old.entries c.args.i e) (end_with head game old.end) =
    ap (λ (n : NameLists). N n c.set.new.self c.place_record.new.store) names
    ∙ (ap (λ (es : List Entry). N (names_with head old.names) es c.place_record.new.store) entries ∙ ap (λ (n : ℕ). N (names_with head old.names) (slice_set old.entries c.args.i e) n) end)
    in
    let P : Kept → Type 0 = λ k. Places bytes (game_replaced c.args.i head game) old k in
    let Q : Kept → Type 0 = λ k. Places bytes (game_replaced c.args.i head game) k (N c.add_names.new.names c.set.new.self c.place_record.new.store) in
    subst Q c.self.view_is (subst P (sym new) done)

pub returns-clause-room : goal.returns-clause-room
returns-clause-room g c =
    let head = c.args.head.now in
    let bytes = written_record head.tags c.args.g.now in
    let written = c.in_ok-encoded.ensures.written ∙ ap (λ (ts : List Tag). written_record ts c.args.g.now) c.as_slice.ensures.same in
    let slice = c.as_slice-2.ensures.value ∙ written in
    let sound : IsSound c.args.self.now = subst (λ (k : Kept). IsSound k) c.self.view_is c.self.invariant in
    let names : c.add_names.new.names ≡ names_with head c.args.self.now.names = c.in_ok-ids.ensures.names ∙ ap (λ (k : Kept). names_with head k.names) c.self.view_is in
    let S : NameLists → Type 0 = λ n. AreSound n in
    let full = full-file (length c.args.self.now.entries) (names_with head c.args.self.now.names) (end_with head c.args.g.now c.args.self.now.end) (few-kept c.args.self.now sound)
    (none-full (names_with head c.args.self.now.names) (subst S names c.add_names.ensures.sound)) in
    let B : List ℕ → Type 0 = λ b. or_file None (end_after c.self.inside.store (length b)) ≡ None in
    let K : Kept → Type 0 = λ k. or_file None (end_after k.end (length bytes)) ≡ None in
    record {
      short = subst (λ (b : List ℕ). length b ≤ longest) written c.in_ok-encoded.ensures.fits;
      room = full ∙ subst K c.self.view_is (subst B slice c.in-Ok.ensures.room);
    }

pub returns-clause-others : goal.returns-clause-others
returns-clause-others g c = λ j other.
    let at : List Entry → Type 0 = λ es. slice_get c.set.new.self j ≡ slice_get es j in
    let placed = ap (λ (es : List Entry). slice_get es j) c.set.ensures.set ∙ get-set_other c.self.inside.entries c.args.i j _ other in
    subst at (ap (λ (k : Kept). k.entries) c.self.view_is) placed
