-- The records of the first games that stay in the new games file, and one game more.
use Rattle.std.proofs.Common.{◌≡◌, ◌≤◌, ◌+◌, ℕ, Bool, true, false, List, [], ◌++◌, length, map, take, slice_get, replicate, if◌then◌else◌, Option, Some, None, option_map, Result, Ok, Err, refl, sym, ap, ◌∙◌, subst, inl, inr, arith}
use Rattle.std.specs.Bool.{MatchBool}
use Rattle.std.specs.Prelude.{IfErr, IfOk, OnErr, OnOk}
use Rattle.std.proofs.lemmas.Bool.{MatchBool-at_false, MatchBool-at_true, cases_Bool}
use Rattle.std.proofs.lemmas.List.{length-append, length-replicate, length-take-le}
use Rattle.base_files.specs.Extents.{record_in}
use Rattle.base_files.specs.Seen.{FreshAlone, Seen, begun, lengthened, told_instead}
use Rattle.base_files.specs.Told.{Tells, TellsLength, adds, part_told}
use Rattle.block_store.specs.Placing.{end_after, padded, padding}
use Rattle.index_entry.specs.declared.entry.Entry.{Entry}
use Rattle.base_core.specs.Compacted.{end_of}
use Rattle.base_core.specs.Entries.{extent_of}
use Rattle.base_core.specs.Represents.{Kept}
use Rattle.base_core.specs.GameAt.{IsStillOfGame, SaysWhy}
use Rattle.base_core.specs.GameAt.{IfChanged as IfGameChanged}
use Rattle.base_core.specs.declared.fault.EditError.{EditError}
use Rattle.base_core.specs.declared.fault.EditError.TheVariants as edit
use Rattle.compact_base.specs.declared.fault.CompactError.{CompactError}
use Rattle.compact_base.specs.declared.fault.CompactError.TheVariants as error
use Rattle.compact_base.specs.Compacting.{IfChanged, new_end, new_games, records_from}
use Rattle.compact_base.specs.Drafting.{CopiedFirst, Copies, CopiesIfKept, IsCopied, IsDevice, WhyNotCopied, len_if_kept}
use Rattle.compact_base.specs.Errors.{files_error, record_error}
use Rattle.sig_index.specs.Games.{head_in}
use Rattle.base_core.specs.Represents.{heads_of}
use Rattle.base_files.specs.Causes.{HasCause}
use Rattle.base_files.specs.Counters.{Rose}
use Rattle.base_files.specs.Seen.{LengthenedInPart}
use Rattle.base_files.specs.declared.faults.DeviceError.{DeviceError}
use Rattle.base_files.specs.declared.faults.DeviceError.TheVariants as device
use Rattle.compact_base.proofs.FirstLaws.{all-taken, deleted-at}
use Rattle.compact_base.proofs.ListLaws.{new-end-stays, new-games-stays, staying-goes}

-- ---- none.

begun_told : (games : Option (List ℕ)) → told_instead [] games ≡ option_map (λ told. []) games
begun_told None = refl
begun_told (Some told) = refl

none_long : (games : Option (List ℕ)) → TellsLength (told_instead [] games) 0
none_long None = tt
none_long (Some told) = refl

pub copied-none : (kept : Kept) (old new : Seen) → new ≡ begun old → CopiedFirst 0 kept 0 old new
copied-none kept old new is =
    let L : Seen → Type 0 = λ s. TellsLength s.fresh 0 in
    record {
      seen = is ∙ ap (λ (f : Option (List ℕ)). record old { fresh = f; added = 0 }) (begun_told old.games);
      ends = refl;
      long = subst L (sym is) (none_long old.games);
    }

-- ---- a game that goes.

pub copied-goes : (i : ℕ) (kept : Kept) (end : ℕ) (old new : Seen) (e : Entry) → slice_get kept.entries i ≡ Some e → e.deleted ≡ true → CopiedFirst i kept end old new → CopiedFirst (i + 1) kept end old new
copied-goes i kept end old new e at goes has =
    let same = staying-goes kept.entries i e at goes in
    let S : List Entry → Type 0 = λ es. new ≡ record old { fresh = option_map (λ games. records_from games 0 es) old.games; added = end_of 0 (map (λ x. x.len) es) } in
    let E : List Entry → Type 0 = λ es. end ≡ end_of 0 (map (λ x. x.len) es) in
    record { seen = subst S (sym same) has.seen; ends = subst E (sym same) has.ends; long = has.long }

-- ---- a game that stays.

adds_long : (fresh : Option (List ℕ)) (end : ℕ) (bytes : List ℕ) → TellsLength fresh end → TellsLength (adds fresh bytes) (end + length bytes)
adds_long None end bytes long = tt
adds_long (Some told) end bytes long = ap (λ (n : ℕ). n + length bytes) long ∙ sym (length-append told bytes)

pad_long : (pad : ℕ) (bytes : List ℕ) → length (replicate pad 0 ++ bytes) ≡ pad + length bytes
pad_long pad bytes =
    let nil : ℕ = 0 in
    length-append (replicate pad nil) bytes ∙ ap (λ (n : ℕ). n + length bytes) (length-replicate pad nil)

-- What is added with a record, by its bytes and by the length of the entry.
same_pad : (told : List ℕ) (end : ℕ) (e : Entry) (bytes : List ℕ) → length bytes ≡ e.len → bytes ≡ record_in told (extent_of e) → padded end (record_in told (extent_of e)) ≡ replicate (padding end e.len) 0 ++ record_in told (extent_of e)
same_pad told end e bytes long is =
    ap (λ (n : ℕ). replicate (padding end n) 0 ++ record_in told (extent_of e)) (ap (λ (b : List ℕ). length b) (sym is) ∙ long)

-- The step of the told games file: it is enough where it is told.
fresh_more : (games : Option (List ℕ)) (i : ℕ) (kept : Kept) (e : Entry) (bytes : List ℕ) → slice_get kept.entries i ≡ Some e → e.deleted ≡ false → length bytes ≡ e.len → Tells (part_told games e.offset e.len) bytes →
    adds (option_map (new_games (take i kept.entries)) games) (replicate (padding (new_end (take i kept.entries)) e.len) 0 ++ bytes) ≡ option_map (new_games (take (i + 1) kept.entries)) games
fresh_more None i kept e bytes at stays long read = refl
fresh_more (Some told) i kept e bytes at stays long read =
    let end = new_end (take i kept.entries) in
    let front = new_games (take i kept.entries) told in
    ap (λ (b : List ℕ). Some b) (ap (λ (b : List ℕ). front ++ (replicate (padding end e.len) 0 ++ b)) read
    ∙ (ap (λ (b : List ℕ). front ++ b) (sym (same_pad told end e bytes long read)) ∙ sym (new-games-stays told kept.entries i e at stays)))

pub copied-stays : (i : ℕ) (kept : Kept) (end after : ℕ) (old mid new : Seen) (e : Entry) → slice_get kept.entries i ≡ Some e → e.deleted ≡ false → CopiedFirst i kept end old mid → IsCopied e end after mid new →
    CopiedFirst (i + 1) kept after old new
copied-stays i kept end after old mid new e at stays has is =
    let next = new_end (take i kept.entries) in
    let bytes = replicate (padding next e.len) 0 ++ is.bytes in
    let size : length bytes ≡ padding next e.len + e.len = pad_long (padding next e.len) is.bytes ∙ ap (λ (n : ℕ). padding next e.len + n) is.long in
    let told : Tells (part_told old.games e.offset e.len) is.bytes = subst (λ (s : Seen). Tells (part_told s.games e.offset e.len) is.bytes) has.seen is.read in
    let ends : after ≡ end_after next e.len = is.ends ∙ ap (λ (n : ℕ). end_after n e.len) has.ends in
    let all : end_after next e.len ≡ new_end (take (i + 1) kept.entries) = sym (new-end-stays kept.entries i e at stays) in
    let added : new ≡ lengthened bytes mid = is.added ∙ ap (λ (n : ℕ). lengthened (replicate (padding n e.len) 0 ++ is.bytes) mid) has.ends in
    let R : Option (List ℕ) → ℕ → Seen = λ f n. record old { fresh = f; added = n } in
    let sum : next + length bytes ≡ end_after next e.len = omega (arith, size) in
    let L : ℕ → Type 0 = λ n. TellsLength (adds mid.fresh bytes) n in
    let N : Seen → Type 0 = λ s. TellsLength s.fresh after in
    record {
      seen = added ∙ (ap (λ (s : Seen). lengthened bytes s) has.seen
          ∙ (ap (λ (f : Option (List ℕ)). R f (next + length bytes)) (fresh_more old.games i kept e is.bytes at stays is.long told) ∙ ap (λ (n : ℕ). R (option_map (new_games (take (i + 1) kept.entries)) old.games) n) (sum ∙ all)));
      ends = ends ∙ all;
      long = subst N (sym added) (subst L (ap (λ (n : ℕ). n + length bytes) has.ends ∙ (sum ∙ sym ends)) (adds_long mid.fresh end bytes has.long));
    }

-- One game more, whether it stays or goes.
pub copied-more : (i : ℕ) (kept : Kept) (end after : ℕ) (old mid new : Seen) (e : Entry) → slice_get kept.entries i ≡ Some e → CopiedFirst i kept end old mid → CopiesIfKept i kept end after mid new →
    CopiedFirst (i + 1) kept after old new
copied-more i kept end after old mid new e at has copies =
    elim (cases_Bool e.deleted) [
      | inl goes ↦
          let same = MatchBool-at_true _ _ goes (copies e at) in
          let C : ℕ → Seen → Type 0 = λ n s. CopiedFirst (i + 1) kept n old s in
          subst (λ (n : ℕ). C n new) (sym same.0) (subst (λ (s : Seen). C end s) (sym same.1) (copied-goes i kept end old mid e at goes has))
      | inr stays ↦ copied-stays i kept end after old mid new e at stays has (MatchBool-at_false _ _ stays (copies e at))
    ]

-- ---- where it is broken off.

pub fresh-alone : (i : ℕ) (kept : Kept) (end : ℕ) (old mid new : Seen) → CopiedFirst i kept end old mid → FreshAlone mid new → FreshAlone old new
fresh-alone i kept end old mid new has left = left ∙ ap (λ (s : Seen). record s { fresh = new.fresh; added = new.added }) has.seen

-- Why a record is not read is why it is not copied.
not_copied_so : (kept : Kept) (told : Option (List ℕ)) (i : ℕ) (buf : List ℕ) (e : EditError) → SaysWhy kept told i buf e → WhyNotCopied kept told buf (record_error e)
not_copied_so kept told i buf (edit.Changed game sig found) why = record {
  own = refl;
  e = why.e;
  at = subst (λ (n : ℕ). slice_get kept.entries n ≡ Some why.e) (sym why.own) why.at;
  same = why.same;
  read = why.read;
  shown = why.shown;
}
not_copied_so kept told i buf edit.Failed why = tt
not_copied_so kept told i buf edit.Memory why = tt
not_copied_so kept told i buf (edit.NoGame game) why = tt
not_copied_so kept told i buf (edit.TooLong n) why = tt
not_copied_so kept told i buf (edit.Full what) why = tt

pub not-copied : (kept : Kept) (told : Option (List ℕ)) (i : ℕ) (buf : List ℕ) (e : EditError) (result : CompactError) → result ≡ record_error e → SaysWhy kept told i buf e → WhyNotCopied kept told buf result
not-copied kept told i buf e result is why = subst (λ (r : CompactError). WhyNotCopied kept told buf r) (sym is) (not_copied_so kept told i buf e why)

same_copied_so : (F : Type 0) (e : EditError) → IfGameChanged e F → IfChanged (record_error e) F
same_copied_so F (edit.Changed game sig found) fact = fact
same_copied_so F edit.Failed fact = tt
same_copied_so F edit.Memory fact = tt
same_copied_so F (edit.NoGame game) fact = tt
same_copied_so F (edit.TooLong n) fact = tt
same_copied_so F (edit.Full what) fact = tt

pub same-copied : (F : Type 0) (e : EditError) (result : CompactError) → result ≡ record_error e → IfGameChanged e F → IfChanged result F
same-copied F e result is fact = subst (λ (r : CompactError). IfChanged r F) (sym is) (same_copied_so F e fact)

-- The files failed where reading a record failed.
pub failed-so : (e : EditError) (result : CompactError) → result ≡ record_error e → result ≡ error.Failed → e ≡ edit.Failed
failed-so edit.Failed result is failed = refl
failed-so edit.Memory result is failed = let clash : error.Memory ≡ error.Failed = sym is ∙ failed in absurd (cc)
failed-so (edit.Changed game sig found) result is failed = let clash : error.Changed game sig found ≡ error.Failed = sym is ∙ failed in absurd (cc)
failed-so (edit.NoGame game) result is failed = let clash : error.Memory ≡ error.Failed = sym is ∙ failed in absurd (cc)
failed-so (edit.TooLong n) result is failed = let clash : error.Memory ≡ error.Failed = sym is ∙ failed in absurd (cc)
failed-so (edit.Full what) result is failed = let clash : error.Memory ≡ error.Failed = sym is ∙ failed in absurd (cc)

-- ---- whether a game is copied, by what is read of it.

pub goes-so : (i : ℕ) (kept : Kept) (end : ℕ) (seen : Seen) → true ≡ (head_in (heads_of kept) i).deleted → CopiesIfKept i kept end end seen seen
goes-so i kept end seen is = λ e at. subst (λ (b : Bool). MatchBool b ((end ≡ end) × (seen ≡ seen)) (IsCopied e end end seen seen)) (is ∙ deleted-at kept i e at) (refl, refl)

pub stays-so : (i : ℕ) (kept : Kept) (end after : ℕ) (old new : Seen) → false ≡ (head_in (heads_of kept) i).deleted → Copies i kept end after old new → CopiesIfKept i kept end after old new
stays-so i kept end after old new is copies = λ e at. subst (λ (b : Bool). MatchBool b ((after ≡ end) × (new ≡ old)) (IsCopied e end after old new)) (is ∙ deleted-at kept i e at) (copies e at)

pub asks-so : (i : ℕ) (kept : Kept) (old new : ℕ) → false ≡ (head_in (heads_of kept) i).deleted → ((e : Entry) → slice_get kept.entries i ≡ Some e → new ≤ old + e.len) → (e : Entry) → slice_get kept.entries i ≡ Some e → new ≤ old + len_if_kept e
asks-so i kept old new is asks = λ e at. subst (λ (b : Bool). new ≤ old + (if b then 0 else e.len)) (is ∙ deleted-at kept i e at) (asks e at)

pub ok-so : {A E : Type 0} (P Q : A → Type 0) (r : Result A E) → ((x : A) → P x → Q x) → IfOk r P → IfOk r Q
ok-so P Q (Ok x) f p = f x p
ok-so P Q (Err e) f p = p

pub err-so : {A E : Type 0} (P Q : E → Type 0) (r : Result A E) → ((e : E) → P e → Q e) → IfErr r P → IfErr r Q
err-so P Q (Ok x) f p = p
err-so P Q (Err e) f p = f e p

pub on-err-so : {A E : Type 0} (P Q : Type 0) (r : Result A E) → (P → Q) → OnErr r P → OnErr r Q
on-err-so P Q (Ok x) f p = p
on-err-so P Q (Err e) f p = f p

pub on-ok-so : {A E : Type 0} (P Q : Type 0) (r : Result A E) → (P → Q) → OnOk r P → OnOk r Q
on-ok-so P Q (Ok x) f p = f p
on-ok-so P Q (Err e) f p = p

-- ---- all records.

pub copied-whole : (i : ℕ) (kept : Kept) (end : ℕ) (old new : Seen) → i ≡ length kept.entries → CopiedFirst i kept end old new → CopiedFirst (length kept.entries) kept (new_end kept.entries) old new
copied-whole i kept end old new is has =
    let all : CopiedFirst (length kept.entries) kept end old new = subst (λ (n : ℕ). CopiedFirst n kept end old new) is has in
    let ends : end ≡ new_end kept.entries = all.ends ∙ ap (λ (es : List Entry). new_end es) (all-taken kept.entries) in
    subst (λ (n : ℕ). CopiedFirst (length kept.entries) kept n old new) ends all

-- Beside the new games file nothing has changed.
pub copied-alone : (i : ℕ) (kept : Kept) (end : ℕ) (old new : Seen) → CopiedFirst i kept end old new → FreshAlone old new
copied-alone i kept end old new has =
    has.seen ∙ (ap (λ (f : Option (List ℕ)). record old { fresh = f; added = new_end (take i kept.entries) }) (sym (ap (λ (s : Seen). s.fresh) has.seen))
    ∙ ap (λ (n : ℕ). record old { fresh = new.fresh; added = n }) (sym (ap (λ (s : Seen). s.added) has.seen)))

pub alone-then : (old mid new : Seen) → FreshAlone old mid → FreshAlone mid new → FreshAlone old new
alone-then old mid new first left = left ∙ ap (λ (s : Seen). record s { fresh = new.fresh; added = new.added }) first

pub none-changed : (old new : Seen) → new ≡ old → FreshAlone old new
none-changed old new is = subst (λ (s : Seen). s ≡ record old { fresh = s.fresh; added = s.added }) (sym is) refl

-- ---- what the devices leave.

pub left-so : (e : DeviceError) (old new : Seen) → (e ≡ device.Failed → FreshAlone old new) → (e ≡ device.Memory → new ≡ old) → FreshAlone old new
left-so device.Failed old new failed memory = failed refl
left-so device.Memory old new failed memory = none-changed old new (memory refl)

pub in-part-alone : (old new : Seen) → LengthenedInPart old new → FreshAlone old new
in-part-alone old new part = part.rest ∙ ap (λ (n : ℕ). record old { fresh = new.fresh; added = n }) (sym (ap (λ (s : Seen). s.added) part.rest))

pub device-so : (e : DeviceError) (result : CompactError) → result ≡ files_error e → IsDevice result
device-so device.Failed result is = subst (λ (r : CompactError). IsDevice r) (sym is) tt
device-so device.Memory result is = subst (λ (r : CompactError). IsDevice r) (sym is) tt

pub cause-so : (e : DeviceError) (result : CompactError) (old new : ℕ) → result ≡ files_error e → HasCause e old new → result ≡ error.Failed → Rose old new
cause-so device.Failed result old new is cause failed = cause
cause-so device.Memory result old new is cause failed = let clash : error.Memory ≡ error.Failed = sym is ∙ failed in absurd (cc)

pub device-why : (kept : Kept) (told : Option (List ℕ)) (buf : List ℕ) (e : CompactError) → IsDevice e → WhyNotCopied kept told buf e
device-why kept told buf error.Failed is = tt
device-why kept told buf error.Memory is = tt
device-why kept told buf error.Full is = absurd is
device-why kept told buf (error.Changed game sig found) is = absurd is

pub device-same : (F : Type 0) (e : CompactError) → IsDevice e → IfChanged e F
device-same F error.Failed is = tt
device-same F error.Memory is = tt
device-same F error.Full is = absurd is
device-same F (error.Changed game sig found) is = absurd is

-- The files failed, at a later count of their faults.
pub rose-later : (first old new : ℕ) → first ≤ old → Rose old new → Rose first new
rose-later first old new before (inl rose) = inl (omega (arith, before, rose))
rose-later first old new before (inr last) = inr last

-- ---- one record.

pub copies-so : (i : ℕ) (kept : Kept) (end after len pad : ℕ) (old mid new : Seen) (buf : List ℕ) → mid ≡ old → len ≤ length buf → ((e : Entry) → slice_get kept.entries i ≡ Some e → (len ≡ e.len) × Tells (part_told old.games e.offset e.len) (take e.len buf))
    → IsStillOfGame kept i buf → pad ≡ padding end len → new ≡ lengthened (replicate pad 0 ++ take len buf) mid → after ≡ end + pad + len → Copies i kept end after old new
copies-so i kept end after len pad old mid new buf same room read still is added ends = λ e at.
    let here = read e at in
    let bytes = take e.len buf in
    let fits : e.len ≤ length buf = omega (arith, here.0, room) in
    let padded_so : pad ≡ padding end e.len = is ∙ ap (λ (n : ℕ). padding end n) here.0 in
    let A : ℕ → ℕ → Seen → Seen = λ p n s. lengthened (replicate p 0 ++ take n buf) s in
    record {
      bytes = bytes;
      long = length-take-le e.len buf fits;
      read = here.1;
      still = still e at;
      added = added ∙ (ap (λ (p : ℕ). A p len mid) padded_so ∙ (ap (λ (n : ℕ). A (padding end e.len) n mid) here.0 ∙ ap (λ (s : Seen). A (padding end e.len) e.len s) same));
      ends = ends ∙ (ap (λ (p : ℕ). end + p + len) padded_so ∙ ap (λ (n : ℕ). end + padding end e.len + n) here.0);
    }
