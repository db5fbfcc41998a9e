-- What is read of a game and of all games, where the games file is told.
use Rattle.std.proofs.Common.{◌≡◌, ◌<◌, ◌≤◌, ◌+◌, ◌⊎◌, ℕ, zero, suc, Bool, true, false, cond, List, [], ◌∷◌, ◌++◌, length, slice_get, Option, Some, None, is_some, Result, Ok, Err, IsTrue, IfSome, IfOk, IfErr, refl, sym, ap, ◌∙◌, subst, inl, inr, arith, true≢false, eq-or-lt_of_le, All, ◌-◌, zero-add, suc-add}
use Rattle.std.proofs.lemmas.Option.{same_Some, none-some, slice_get_within}
use Rattle.std.proofs.lemmas.List.{length_push}
use Rattle.base_files.specs.Extents.{record_in}
use Rattle.base_files.specs.Told.{Tells, TellsLength, part_told}
use Rattle.game_tree.specs.Date.{keeps_rule}
use Rattle.game_tree.specs.declared.date.Date.{Date}
use Rattle.game_tree.specs.Settle.{settled}
use Rattle.game_codec.specs.Fault.{IsRecordFault}
use Rattle.index_entry.specs.Entry.{IsEntry, entry_in}
use Rattle.index_entry.specs.Index.{entry_bytes}
use Rattle.index_entry.specs.declared.entry.Entry.{Entry}
use Rattle.name_base.specs.NameLists.{NameLists}
use Rattle.sig_index.specs.Signature.{IsSig}
use Rattle.sig_index.specs.declared.signature.Sig.{Sig}
use Rattle.base_core.specs.declared.fault.BaseFault.{BaseFault}
use Rattle.base_core.specs.declared.fault.DerivedField.{DerivedField}
use Rattle.base_core.specs.Base.{Held}
use Rattle.base_core.specs.Entries.{Says, head_of, extent_of}
use Rattle.base_core.specs.FirstFault.{Passes, EntryFails, Fails, entry_checked, derived_fault}
use Rattle.base_core.specs.Represents.{IsKept, Keeps}
use Rattle.base_core.specs.Reading.{AreRead, IsNotTaken, IsRead, IsReadSo, IsSigned, IsTaken, kept_entry}
use Rattle.game_codec.specs.Fault.{IfBad as IfBadRecord}
use Rattle.game_codec.specs.declared.fault.DecodeError.{DecodeError}
use Rattle.game_codec.specs.declared.fault.DecodeError.TheVariants as decode
use Rattle.game_codec.proofs.RecordAnswerLaws.{record-unbroken}
use Rattle.base_core.specs.Errors.{unread_error}
use Rattle.base_core.specs.GameAt.{TellsChange}
use Rattle.base_files.specs.Counters.{LAST, raised}
use Rattle.std.proofs.Math.Nat.{min-le_left}
use Rattle.std.proofs.lemmas.List.Elements.{All-push}
use Rattle.base_core.specs.Opening.{IfBad, records_len}
use Rattle.base_core.specs.declared.fault.OpenError.{OpenError}
use Rattle.base_core.specs.declared.fault.OpenError.TheVariants as opening
use Rattle.base_core.specs.declared.reading.GameRead.{GameRead}
use Rattle.base_core.proofs.CheckLaws.{checked, ends_within, has_names}
use Rattle.base_core.proofs.KeptLaws.{is-kept, settled_kept}
use Rattle.base_core.proofs.Lists.{get_some, get_push_old, get_push_new, count_push}
use Rattle.base_core.proofs.OneFault.{checked-fails, not_taken-fails, passes_fails}

-- Nothing is there where the test says so.
none_by : {X : Type 0} (o : Option X) → is_some o ≡ false → o ≡ None
none_by None e = refl
none_by (Some x) e = absurd (true≢false e)

-- The entry that is kept keeps the game that its record says.
keeps : (names : NameLists) (games : List ℕ) (e : Entry) (s : Sig) (date : Date) → e.offset + e.len ≤ length games → IsTrue (keeps_rule e.event_date e.date) → IsSigned (record_in games (extent_of e)) e s date → (held : Held) × (Says names games e held × (IsSig held.game s × Keeps names games (kept_entry e s date) held))
unfolding kept_entry
keeps names games e s date within rule signed =
    let held : Held = record { head = settled (head_of names e signed.tags); game = signed.tree; len = e.len } in
    let says : Says names games e held = record { tags = signed.tags; within = within; read = signed.read; head = refl; len = refl } in
    let kept : Says names games (kept_entry e s date) held =
    record { tags = signed.tags; within = within; read = signed.read; head = sym (settled_kept names e s date signed.tags rule (signed.dated names)); len = refl } in
    (held, (says, (signed.signed, record { says = kept; event_date = signed.dated names; signed = signed.signed })))

-- A game that was taken, by the bytes of its record.
taken_so : (strict : Bool) (names : NameLists) (games : List ℕ) (game : ℕ) (bytes : List ℕ) (e kept : Entry) (mended : Bool) → IsTrue (keeps_rule e.event_date e.date) →
    entry_checked names (length games) game bytes ≡ Ok e → IsTaken strict (record_in games (extent_of e)) e kept mended → IsReadSo strict names games game bytes kept mended
taken_so strict names games game bytes e kept mended rule passed taken =
    let s = taken.sig in
    let signed = taken.signed in
    let within : e.offset + e.len ≤ length games = ends_within (length games) e (checked names (length games) game bytes e passed).placed in
    let k = keeps names games e s taken.date within rule signed in
    let K : Entry → Type 0 = λ x. Keeps names games x k.0 in
    record {
      held = k.0;
      field = derived_fault e s;
      read = record {
        fields = e;
        checked = passed;
        sig = s;
        signs = record { tags = signed.tags; tree = signed.tree; read = signed.read; signed = signed.signed };
        says = k.1.0;
        signed = k.1.1.0;
        keeps = subst K (sym taken.keeps) k.1.1.1;
        differs = refl;
        strictly = λ is. none_by (derived_fault e s) (sym taken.mends ∙ taken.strictly is);
      };
      mends = taken.mends;
    }

-- The same where the games file may be told.
pub taken_told : (told : Option (List ℕ)) (strict : Bool) (names : NameLists) (end game : ℕ) (bytes read : List ℕ) (e kept : Entry) (mended : Bool) → IsTrue (keeps_rule e.event_date e.date) →
    TellsLength told end → Tells (part_told told e.offset e.len) read → entry_checked names end game bytes ≡ Ok e → IsTaken strict read e kept mended →
    IfSome told (λ games. IsReadSo strict names games game bytes kept mended)
taken_told None strict names end game bytes read e kept mended rule long tells checked taken = tt
taken_told (Some games) strict names end game bytes read e kept mended rule long tells checked taken =
    let C : ℕ → Type 0 = λ n. entry_checked names n game bytes ≡ Ok e in
    let T : List ℕ → Type 0 = λ b. IsTaken strict b e kept mended in
    taken_so strict names games game bytes e kept mended rule (subst C long checked) (subst T tells taken)

pub not_taken_told : (told : Option (List ℕ)) (strict : Bool) (names : NameLists) (end game : ℕ) (bytes read : List ℕ) (e : Entry) (fault : BaseFault) →
    TellsLength told end → Tells (part_told told e.offset e.len) read → entry_checked names end game bytes ≡ Ok e → IsNotTaken strict game read e fault →
    IfSome told (λ games. Fails strict names games game bytes fault)
not_taken_told None strict names end game bytes read e fault long tells checked not = tt
not_taken_told (Some games) strict names end game bytes read e fault long tells checked not =
    let C : ℕ → Type 0 = λ n. entry_checked names n game bytes ≡ Ok e in
    let T : List ℕ → Type 0 = λ b. IsNotTaken strict game b e fault in
    not_taken-fails strict names games game bytes e fault (subst C long checked) (subst T tells not)

-- An entry that fails before its record is read.
pub checked_told : (told : Option (List ℕ)) (strict : Bool) (names : NameLists) (end game : ℕ) (bytes : List ℕ) (fault : BaseFault) →
    TellsLength told end → entry_checked names end game bytes ≡ Err fault → IfSome told (λ games. Fails strict names games game bytes fault)
checked_told None strict names end game bytes fault long fails = tt
checked_told (Some games) strict names end game bytes fault long fails =
    let C : ℕ → Type 0 = λ n. entry_checked names n game bytes ≡ Err fault in checked-fails strict names games game bytes fault (subst C long fails)

-- ---- all games so far.

pub none_read : (strict : Bool) (index : List ℕ) (names : NameLists) (games : List ℕ) → AreRead strict index names games [] 0
none_read strict index names games = record {
  all = [];
  fields = [];
  held = refl;
  compared = refl;
  each = λ i e held field at. absurd (none-some e at);
  mends = refl;
  strictly = λ is. refl;
}

-- At a place of a list with one element more stands one of the list, or the new one.
abbrev pub IsIn : {X : Type 0} → List X → X → ℕ → X → ℕ → Type 0
IsIn xs x n y i = ((i < n) × (slice_get xs i ≡ Some y)) ⊎ ((i ≡ n) × (x ≡ y))

pub placed_in : {X : Type 0} (xs : List X) (x y : X) (i n : ℕ) → length xs ≡ n → slice_get (xs ++ x ∷ []) i ≡ Some y → IsIn xs x n y i
placed_in xs x y i n long at =
    let within : i < length (xs ++ x ∷ []) = slice_get_within (xs ++ x ∷ []) i y at in
    let pushed : length (xs ++ x ∷ []) ≡ length xs + 1 = length_push xs x in
    let last : i ≤ length xs = omega (arith, within, pushed) in
    elim (eq-or-lt_of_le last) [
      | inl same ↦ inr (same ∙ long, same_Some x y (sym (get_push_new xs x) ∙ subst (λ k. slice_get (xs ++ x ∷ []) k ≡ Some y) same at))
      | inr below ↦ inl (subst (λ k. i < k) long below, sym (get_push_old xs x i below) ∙ at)
    ]

mended_more : (field : Option DerivedField) (b strict : Bool) (n : ℕ) → b ≡ is_some field → (IsTrue strict → field ≡ None) → (IsTrue strict → n ≡ 0) → IsTrue strict → n + cond b 1 0 ≡ 0
mended_more field b strict n is none zero_so strictly = rw (is, none strictly, zero_so strictly) refl

each_more : (strict : Bool) (index : List ℕ) (names : NameLists) (games : List ℕ) (entries : List Entry) (mended game : ℕ) (e : Entry) (b : Bool) (before : AreRead strict index names games entries mended)
    (now : IsReadSo strict names games game (entry_bytes index game) e b) (i : ℕ) (x : Entry) (held : Held) (field : Option DerivedField) →
    IsIn entries e game x i → IsIn before.all now.held game held i → IsIn before.fields now.field game field i → IsRead strict names games i (entry_bytes index i) x held field
each_more strict index names games entries mended game e b before now i x held field (inl at) (inl h) (inl f) = before.each i x held field at.1 h.1 f.1
each_more strict index names games entries mended game e b before now i x held field (inr at) (inr h) (inr f) =
    let I : ℕ → Type 0 = λ k. IsRead strict names games k (entry_bytes index k) e now.held now.field in
    let E : Entry → Type 0 = λ y. IsRead strict names games i (entry_bytes index i) y now.held now.field in
    let H : Held → Type 0 = λ y. IsRead strict names games i (entry_bytes index i) x y now.field in
    let F : Option DerivedField → Type 0 = λ y. IsRead strict names games i (entry_bytes index i) x held y in
    subst F f.1 (subst H h.1 (subst E at.1 (subst I (sym at.0) now.read)))
each_more strict index names games entries mended game e b before now i x held field (inl at) (inl h) (inr f) = absurd (omega (arith, at.0, f.0))
each_more strict index names games entries mended game e b before now i x held field (inl at) (inr h) f = absurd (omega (arith, at.0, h.0))
each_more strict index names games entries mended game e b before now i x held field (inr at) (inl h) f = absurd (omega (arith, at.0, h.0))
each_more strict index names games entries mended game e b before now i x held field (inr at) (inr h) (inl f) = absurd (omega (arith, at.0, f.0))

pub one_more_read : (strict : Bool) (index : List ℕ) (names : NameLists) (games : List ℕ) (entries : List Entry) (mended game : ℕ) (e : Entry) (b : Bool) → length entries ≡ game →
    AreRead strict index names games entries mended → IsReadSo strict names games game (entry_bytes index game) e b → AreRead strict index names games (entries ++ e ∷ []) (mended + cond b 1 0)
one_more_read strict index names games entries mended game e b long before now = record {
  all = before.all ++ now.held ∷ [];
  fields = before.fields ++ now.field ∷ [];
  held = length_push before.all now.held ∙ ap (λ n. n + 1) before.held ∙ sym (length_push entries e);
  compared = length_push before.fields now.field ∙ ap (λ n. n + 1) before.compared ∙ sym (length_push entries e);
  each = λ i x held field at_x at_held at_field.
      each_more strict index names games entries mended game e b before now i x held field
      (placed_in entries e x i game long at_x)
      (placed_in before.all now.held held i game (before.held ∙ long) at_held)
      (placed_in before.fields now.field field i game (before.compared ∙ long) at_field);
  mends = rw (count_push (λ o. is_some o) before.fields now.field, now.mends) (ap (λ n. n + cond (is_some now.field) 1 0) before.mends);
  strictly = mended_more now.field b strict mended now.mends now.read.strictly before.strictly;
}

-- The same where the games file may be told.
pub one_more_told : (told : Option (List ℕ)) (strict : Bool) (index : List ℕ) (names : NameLists) (entries : List Entry) (mended game : ℕ) (e : Entry) (b : Bool) → length entries ≡ game →
    IfSome told (λ games. AreRead strict index names games entries mended) → IfSome told (λ games. IsReadSo strict names games game (entry_bytes index game) e b) →
    IfSome told (λ games. AreRead strict index names games (entries ++ e ∷ []) (mended + cond b 1 0))
one_more_told None strict index names entries mended game e b long before now = tt
one_more_told (Some games) strict index names entries mended game e b long before now = one_more_read strict index names games entries mended game e b long before now

pub none_told : (told : Option (List ℕ)) (strict : Bool) (index : List ℕ) (names : NameLists) → IfSome told (λ games. AreRead strict index names games [] 0)
none_told None strict index names = tt
none_told (Some games) strict index names = none_read strict index names games

-- ---- what was read of all games.

-- What was read of the game at a place.
pub record At (strict : Bool) (index : List ℕ) (names : NameLists) (games : List ℕ) (all : List Held) (fields : List (Option DerivedField)) (entries : List Entry) (i : ℕ) : Type 0 where
  pub e : Entry
  pub held : Held
  pub field : Option DerivedField
  pub at_e : slice_get entries i ≡ Some e
  pub at_held : slice_get all i ≡ Some held
  pub at_field : slice_get fields i ≡ Some field
  pub read : IsRead strict names games i (entry_bytes index i) e held field

pub read_at : (strict : Bool) (index : List ℕ) (names : NameLists) (games : List ℕ) (entries : List Entry) (mended : ℕ) (r : AreRead strict index names games entries mended) (i : ℕ) → i < length entries →
    At strict index names games r.all r.fields entries i
read_at strict index names games entries mended r i below =
    let x = get_some entries i below in
    let h = get_some r.all i (subst (λ n. i < n) (sym r.held) below) in
    let f = get_some r.fields i (subst (λ n. i < n) (sym r.compared) below) in
    record { e = x.0; held = h.0; field = f.0; at_e = x.1; at_held = h.1; at_field = f.1; read = r.each i x.0 h.0 f.0 x.1 h.1 f.1 }

-- Each entry passes.
pub passes_of : (strict : Bool) (index : List ℕ) (names : NameLists) (games : List ℕ) (entries : List Entry) (mended : ℕ) → AreRead strict index names games entries mended → (i : ℕ) → i < length entries →
    Passes strict names games i (entry_bytes index i)
passes_of strict index names games entries mended r i below =
    let a = read_at strict index names games entries mended r i below in
    record { fields = a.read.fields; checked = a.read.checked; sig = a.read.sig; signs = a.read.signs; derived = λ is. a.read.differs ∙ a.read.strictly is }

-- The first that fails, behind those that were read.
pub fails_told : (told : Option (List ℕ)) (strict : Bool) (index : List ℕ) (names : NameLists) (entries : List Entry) (mended game count : ℕ) (fault : BaseFault) → length entries ≡ game → game < count →
    IfSome told (λ games. AreRead strict index names games entries mended) → IfSome told (λ games. Fails strict names games game (entry_bytes index game) fault) →
    IfSome told (λ games. EntryFails strict index names games count fault)
fails_told None strict index names entries mended game count fault long below read fails = tt
fails_told (Some games) strict index names entries mended game count fault long below read fails = record {
  game = game;
  there = below;
  before = λ i less earlier. passes_fails strict names games i (entry_bytes index i) earlier (passes_of strict index names games entries mended read i (subst (λ n. i < n) (sym long) less));
  fails = fails;
}

-- ---- the answers of a read.

pub reads_so : (r : Result GameRead OpenError) (told : Option (List ℕ)) (strict : Bool) (names : NameLists) (end game : ℕ) (bytes read : List ℕ) (e : Entry) → IsTrue (keeps_rule e.event_date e.date) →
    TellsLength told end → Tells (part_told told e.offset e.len) read → entry_checked names end game bytes ≡ Ok e → IfOk r (λ x. IsTaken strict read e x.entry x.mended) →
    IfOk r (λ x. IfSome told (λ games. IsReadSo strict names games game bytes x.entry x.mended))
reads_so (Ok x) told strict names end game bytes read e rule long tells checked taken = taken_told told strict names end game bytes read e x.entry x.mended rule long tells checked taken
reads_so (Err error) told strict names end game bytes read e rule long tells checked taken = tt

pub fails_so : (r : Result GameRead OpenError) (told : Option (List ℕ)) (strict : Bool) (names : NameLists) (end game : ℕ) (bytes read : List ℕ) (e : Entry) →
    TellsLength told end → Tells (part_told told e.offset e.len) read → entry_checked names end game bytes ≡ Ok e → IfErr r (IfBad (IsNotTaken strict game read e)) →
    IfErr r (IfBad (λ fault. IfSome told (λ games. Fails strict names games game bytes fault)))
fails_so (Ok x) told strict names end game bytes read e long tells checked not = tt
fails_so (Err (opening.Bad fault)) told strict names end game bytes read e long tells checked not = not_taken_told told strict names end game bytes read e fault long tells checked not
fails_so (Err opening.Failed) told strict names end game bytes read e long tells checked not = tt
fails_so (Err opening.Memory) told strict names end game bytes read e long tells checked not = tt

pub kept_so : (r : Result GameRead OpenError) (strict : Bool) (names : NameLists) (end game : ℕ) (bytes read : List ℕ) (e : Entry) → entry_checked names end game bytes ≡ Ok e →
    IfOk r (λ x. IsTaken strict read e x.entry x.mended) → IfOk r (λ x. IsEntry x.entry) → IfOk r (λ x. x.entry.home_count ≤ 16) → IfOk r (λ x. IsKept names end x.entry)
kept_so (Ok x) strict names end game bytes read e is taken fields homes =
    let c = checked names end game bytes e is in
    is-kept names end e x.entry taken.sig taken.date taken.keeps (has_names names e c.named) c.placed fields homes
kept_so (Err error) strict names end game bytes read e is taken fields homes = tt

-- A record that is not read.
pub unread_tells : (i : ℕ) (kept : Sig) (bytes : List ℕ) (error : DecodeError) → IfBadRecord (IsRecordFault bytes) error → TellsChange i kept bytes (unread_error i kept error)
unread_tells i kept bytes (decode.Bad fault) broken = (refl, (refl, λ some. record-unbroken bytes some.0 some.1.0 fault some.1.1 broken))
unread_tells i kept bytes decode.Memory broken = tt

-- ---- the loop over the games.

-- The records of more games have no fewer bytes.
records_len-add : (index : List ℕ) (m k : ℕ) → records_len index m ≤ records_len index (k + m)
records_len-add index m zero = rw zero-add (omega arith)
records_len-add index m (suc k) = let before : records_len index m ≤ records_len index (k + m) = records_len-add index m k in rw suc-add (omega (arith, before))

pub records_len-le : (index : List ℕ) (m n : ℕ) → m ≤ n → records_len index m ≤ records_len index n
records_len-le index m n within =
    let e : n - m + m ≡ n = omega arith in
    let P : ℕ → Type 0 = λ k. records_len index m ≤ records_len index k in
    subst P e (records_len-add index m (n - m))

-- So many bytes asked, within those of all records.
pub asked-within : (index : List ℕ) (game count old before now : ℕ) → game < count → before ≤ old + records_len index game → now ≤ before + (entry_in (entry_bytes index game)).len → now ≤ old + records_len index count
asked-within index game count old before now below first second =
    let more : records_len index (suc game) ≤ records_len index count = records_len-le index (suc game) count (omega (arith, below)) in
    omega (arith, first, second, more)

pub asked-le : (old n now : ℕ) → now ≡ raised old n → now ≤ old + n
asked-le old n now e = subst (λ k. k ≤ old + n) (sym e) (min-le_left (old + n) LAST)

-- The first that fails, for an error.
pub fails_by : (error : OpenError) (told here : Option (List ℕ)) (strict : Bool) (index : List ℕ) (names : NameLists) (entries : List Entry) (mended game count : ℕ) → here ≡ told → length entries ≡ game → game < count →
    IfSome told (λ games. AreRead strict index names games entries mended) → IfBad (λ fault. IfSome here (λ games. Fails strict names games game (entry_bytes index game) fault)) error →
    IfBad (λ fault. IfSome told (λ games. EntryFails strict index names games count fault)) error
fails_by (opening.Bad fault) told here strict index names entries mended game count same long below read fails =
    let O : Option (List ℕ) → Type 0 = λ o. IfSome o (λ games. Fails strict names games game (entry_bytes index game) fault) in
    fails_told told strict index names entries mended game count fault long below read (subst O same fails)
fails_by opening.Failed told here strict index names entries mended game count same long below read fails = tt
fails_by opening.Memory told here strict index names entries mended game count same long below read fails = tt

-- One more game, as the loop has it.
pub next_read : (told here : Option (List ℕ)) (strict : Bool) (index : List ℕ) (names : NameLists) (entries after : List Entry) (mended one game : ℕ) (e : Entry) (b : Bool) → here ≡ told → length entries ≡ game →
    after ≡ entries ++ e ∷ [] → one ≡ cond b 1 0 → IfSome told (λ games. AreRead strict index names games entries mended) → IfSome here (λ games. IsReadSo strict names games game (entry_bytes index game) e b) →
    IfSome told (λ games. AreRead strict index names games after (mended + one))
next_read told here strict index names entries after mended one game e b same long pushed is before now =
    let O : Option (List ℕ) → Type 0 = λ o. IfSome o (λ games. IsReadSo strict names games game (entry_bytes index game) e b) in
    let A : List Entry → Type 0 = λ es. IfSome told (λ games. AreRead strict index names games es (mended + one)) in
    let M : ℕ → Type 0 = λ n. IfSome told (λ games. AreRead strict index names games (entries ++ e ∷ []) (mended + n)) in
    subst A (sym pushed) (subst M (sym is) (one_more_told told strict index names entries mended game e b long before (subst O same now)))

pub one_longer : (entries after : List Entry) (e : Entry) (game : ℕ) → length entries ≡ game → after ≡ entries ++ e ∷ [] → length after ≡ game + 1
one_longer entries after e game long pushed = ap (λ (es : List Entry). length es) pushed ∙ (length_push entries e ∙ ap (λ (n : ℕ). n + 1) long)

pub all_kept : (names : NameLists) (end : ℕ) (entries after : List Entry) (e : Entry) → after ≡ entries ++ e ∷ [] → All (IsKept names end) entries → IsKept names end e → All (IsKept names end) after
all_kept names end entries after e pushed all is =
    let A : List Entry → Type 0 = λ es. All (IsKept names end) es in
    subst A (sym pushed) (All-push (IsKept names end) entries e all is)

pub at_most_one : (b : Bool) (one : ℕ) → one ≡ cond b 1 0 → one ≤ 1
at_most_one true one is = omega (arith, is)
at_most_one false one is = omega (arith, is)
