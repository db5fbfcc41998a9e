-- The records that the new games file was given, and one more.
use Rattle.std.proofs.Common.{◌≡◌, ◌+◌, ℕ, false, true, List, [], ◌∷◌, ◌++◌, length, map, take, replicate, slice_get, Option, Some, Result, Ok, Err, OnOk, refl, sym, ap, ◌∙◌, subst, inl, inr, arith, append-nil, append_assoc}
use Rattle.std.proofs.lemmas.Bool.{MatchBool-at_false, MatchBool-at_true, cases_Bool}
use Rattle.std.proofs.lemmas.List.{length-append}
use Rattle.base_files.proofs.Telling.{adds-append, adds-nil}
use Rattle.base_files.specs.Seen.{Seen, begun, committed, lengthened}
use Rattle.base_files.specs.Told.{Tells, adds, part_told}
use Rattle.block_store.specs.Placing.{end_after, padded, padding}
use Rattle.index_entry.specs.declared.entry.Entry.{Entry}
use Rattle.base_core.specs.Compacted.{end_of}
use Rattle.base_core.specs.Represents.{Kept}
use Rattle.game_codec.proofs.AnswerLaws.{is-legal}
use Rattle.compact_base.specs.Compacting.{AreRecordsKept, CopiesRecords, IsRecordKept, new_end, staying}
use Rattle.compact_base.specs.Drafting.{AddsFirst, CopiedFirst, CopiesIfKept, IsCopied}
use Rattle.compact_base.proofs.FirstLaws.{all-taken}
use Rattle.compact_base.proofs.ListLaws.{staying-goes, staying-stays}

-- Bytes added one after the other are added together.
lengthened-nil : (seen : Seen) → seen ≡ lengthened [] seen
lengthened-nil seen =
    let none : seen.added ≡ seen.added + length {A = ℕ} [] = omega arith in
    ap (λ (f : Option (List ℕ)). record seen { fresh = f }) (sym (adds-nil seen.fresh)) ∙ ap (λ (n : ℕ). record seen { fresh = adds seen.fresh []; added = n }) none

lengthened-append : (xs ys : List ℕ) (seen : Seen) → lengthened ys (lengthened xs seen) ≡ lengthened (xs ++ ys) seen
lengthened-append xs ys seen =
    let sum : (seen.added + length xs) + length ys ≡ seen.added + length (xs ++ ys) = omega (arith, length-append xs ys) in
    ap (λ (f : Option (List ℕ)). record seen { fresh = f; added = (seen.added + length xs) + length ys }) (sym (adds-append seen.fresh xs ys))
    ∙ ap (λ (n : ℕ). record seen { fresh = adds seen.fresh (xs ++ ys); added = n }) sum

records_more : (games : Option (List ℕ)) (end : ℕ) (entries : List Entry) (e : Entry) (text bytes : List ℕ) → AreRecordsKept games end entries text → IsRecordKept games e bytes →
    AreRecordsKept games end (entries ++ e ∷ []) (text ++ padded (end_of end (map (λ x. x.len) entries)) bytes)
records_more games end [] e text bytes are is = (bytes, ([], (is, (refl, ap (λ (l : List ℕ). l ++ padded end bytes) are ∙ sym (append-nil (padded end bytes))))))
records_more games end (x ∷ entries) e text bytes are is =
    let first : List ℕ = are.0 in
    let rest : List ℕ = are.1.0 in
    let last : List ℕ = padded (end_of (end_after end x.len) (map (λ (y : Entry). y.len) entries)) bytes in (
      first,
      (
        rest ++ last,
        (are.1.1.0, (records_more games (end_after end x.len) entries e rest bytes are.1.1.1.0 is, ap (λ (l : List ℕ). l ++ last) are.1.1.1.1 ∙ append_assoc (padded end first) rest last)),
      ),
    )

pub adds-none : (kept : Kept) (old new : Seen) → new ≡ begun old → AddsFirst 0 kept old new
adds-none kept old new is = record { text = []; records = refl; put = is ∙ lengthened-nil (begun old) }

adds_goes : (i : ℕ) (kept : Kept) (old new : Seen) (e : Entry) → slice_get kept.entries i ≡ Some e → e.deleted ≡ true → AddsFirst i kept old new → AddsFirst (i + 1) kept old new
adds_goes i kept old new e at goes has =
    let S : List Entry → Type 0 = λ es. AreRecordsKept old.games 0 es has.text in
    record { text = has.text; records = subst S (sym (staying-goes kept.entries i e at goes)) has.records; put = has.put }

adds_stays : (i : ℕ) (kept : Kept) (end after : ℕ) (old mid new : Seen) (e : Entry) → slice_get kept.entries i ≡ Some e → e.deleted ≡ false → CopiedFirst i kept end old mid → AddsFirst i kept old mid →
    IsCopied e end after mid new → AddsFirst (i + 1) kept old new
adds_stays i kept end after old mid new e at stays has adds_so is =
    let next = new_end (take i kept.entries) in
    let bytes : List ℕ = is.bytes in
    let told : Tells (part_told old.games e.offset e.len) bytes = subst (λ (s : Seen). Tells (part_told s.games e.offset e.len) bytes) has.seen is.read in
    let kept_record : IsRecordKept old.games e bytes = record {
      long = is.long;
      read = told;
      tags = is.still.0;
      game = is.still.1.0;
      is_record = is.still.1.1.0;
      legal = is-legal bytes is.still.0 is.still.1.0 is.still.1.1.0;
      is_sig = is.still.1.1.1;
    } in
    let whole : List ℕ = adds_so.text ++ padded next bytes in
    let S : List Entry → Type 0 = λ es. AreRecordsKept old.games 0 es whole in
    let pads : replicate (padding end e.len) 0 ++ bytes ≡ padded next bytes =
    ap (λ (n : ℕ). replicate (padding n e.len) 0 ++ bytes) has.ends ∙ ap (λ (n : ℕ). replicate (padding next n) 0 ++ bytes) (sym is.long) in
    record {
      text = whole;
      records = subst S (sym (staying-stays kept.entries i e at stays)) (records_more old.games 0 (staying (take i kept.entries)) e adds_so.text bytes adds_so.records kept_record);
      put = is.added ∙ (ap (λ (l : List ℕ). lengthened l mid) pads ∙ (ap (λ (s : Seen). lengthened (padded next bytes) s) adds_so.put ∙ lengthened-append adds_so.text (padded next bytes) (begun old)));
    }

-- One game more, whether it stays or goes.
pub adds-more : (i : ℕ) (kept : Kept) (end after : ℕ) (old mid new : Seen) (e : Entry) → slice_get kept.entries i ≡ Some e → CopiedFirst i kept end old mid → AddsFirst i kept old mid → CopiesIfKept i kept end after mid new →
    AddsFirst (i + 1) kept old new
adds-more i kept end after old mid new e at has adds_so copies =
    elim (cases_Bool e.deleted) [
      | inl goes ↦
          let same = MatchBool-at_true _ _ goes (copies e at) in
          subst (λ (s : Seen). AddsFirst (i + 1) kept old s) (sym same.1) (adds_goes i kept old mid e at goes adds_so)
      | inr stays ↦ adds_stays i kept end after old mid new e at stays has adds_so (MatchBool-at_false _ _ stays (copies e at))
    ]

-- All of them became the current files.
pub copies-records : {A E : Type 0} (r : Result A E) (kept : Kept) (index names : List ℕ) (old mid new : Seen) → AddsFirst (length kept.entries) kept old mid → OnOk r (new ≡ committed names index mid) →
    OnOk r (CopiesRecords kept old new)
copies-records (Ok x) kept index names old mid new has is =
    let S : List Entry → Type 0 = λ es. AreRecordsKept old.games 0 (staying es) has.text in
    record {
      text = has.text;
      index = index;
      names = names;
      records = subst S (all-taken kept.entries) has.records;
      put = is ∙ ap (λ (s : Seen). committed names index s) has.put;
    }
copies-records (Err e) kept index names old mid new has is = tt
