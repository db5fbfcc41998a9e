-- Three files have one first fault, and none where each entry passes.
use Rattle.std.proofs.Common.{◌≡◌, ◌<◌, ℕ, Bool, true, false, List, length, Some, None, Ok, Err, refl, sym, ◌∙◌, subst, inl, inr, true≢false}
use Rattle.std.proofs.lemmas.Bool.{cases_order}
use Rattle.base_files.specs.Extents.{record_in}
use Rattle.game_tree.specs.Game.{GameTree}
use Rattle.game_tree.specs.declared.head.Tag.{Tag}
use Rattle.game_codec.specs.Fault.{IsRecordFault}
use Rattle.game_codec.specs.RecordAnswer.{record_answer}
use Rattle.game_codec.specs.declared.fault.RecordFault.{RecordFault}
use Rattle.index_entry.specs.Index.{entry_bytes}
use Rattle.index_entry.specs.declared.entry.Entry.{Entry}
use Rattle.name_base.specs.NameLists.{NameLists}
use Rattle.sig_index.specs.Signature.{IsSig, sig_of}
use Rattle.sig_index.specs.declared.signature.Sig.{Sig}
use Rattle.base_core.specs.declared.fault.BaseFault.{BaseFault}
use Rattle.base_core.specs.declared.fault.BaseFault.TheVariants.{Packed, Derived}
use Rattle.base_core.specs.declared.fault.DerivedField.{DerivedField}
use Rattle.base_core.specs.Entries.{extent_of}
use Rattle.base_core.specs.FirstFault.{Whole, whole_read, entry_checked, derived_fault, entry_answer, Signs, Passes, Fails, EntryFails, FirstFault}
use Rattle.base_core.specs.Reading.{IsNotTaken}
use Rattle.base_core.proofs.Results.{same_ok, same_err, ok_err}

-- A game has one signature.
pub sig-one : (game : GameTree) (a b : Sig) → IsSig game a → IsSig game b → a ≡ b
sig-one game a b x y = x ∙ sym y

-- ---- what an entry answers.

-- A fault before its record is read.
pub checked-fails : (strict : Bool) (names : NameLists) (games : List ℕ) (game : ℕ) (bytes : List ℕ) (fault : BaseFault) → entry_checked names (length games) game bytes ≡ Err fault →
    Fails strict names games game bytes fault
unfolding entry_answer
checked-fails strict names games game bytes fault checked = rw checked refl

-- The fault of its record.
pub packed-fails : (strict : Bool) (names : NameLists) (games : List ℕ) (game : ℕ) (bytes : List ℕ) (e : Entry) (what : RecordFault) → entry_checked names (length games) game bytes ≡ Ok e →
    IsRecordFault (record_in games (extent_of e)) what → Fails strict names games game bytes (Packed game what)
unfolding entry_answer
packed-fails strict names games game bytes e what checked broken = rw (checked, broken.answer) refl

-- A derived field, where the opening is strict.
pub derived-fails : (names : NameLists) (games : List ℕ) (game : ℕ) (bytes : List ℕ) (e : Entry) (s : Sig) (field : DerivedField) → entry_checked names (length games) game bytes ≡ Ok e →
    Signs (record_in games (extent_of e)) s → derived_fault e s ≡ Some field → Fails true names games game bytes (Derived game field)
unfolding entry_answer
derived-fails names games game bytes e s field checked signs differs =
    let D : Sig → Type 0 = λ z. derived_fault e z ≡ Some field in
    let found : derived_fault e (sig_of signs.tree) ≡ Some field = subst D signs.signed differs in
    rw (checked, signs.read.answer, found) refl

pub not_taken-fails : (strict : Bool) (names : NameLists) (games : List ℕ) (game : ℕ) (bytes : List ℕ) (e : Entry) (fault : BaseFault) → entry_checked names (length games) game bytes ≡ Ok e →
    IsNotTaken strict game (record_in games (extent_of e)) e fault → Fails strict names games game bytes fault
not_taken-fails strict names games game bytes e fault checked (inl f) =
    let F : BaseFault → Type 0 = λ x. Fails strict names games game bytes x in
    subst F (sym f.1.1) (packed-fails strict names games game bytes e f.0 checked f.1.0)
not_taken-fails true names games game bytes e fault checked (inr f) =
    let F : BaseFault → Type 0 = λ x. Fails true names games game bytes x in
    let d = f.1.1.1 in
    subst F (sym d.1.1) (derived-fails names games game bytes e f.1.0 d.0 checked f.1.1.0 d.1.0)
not_taken-fails false names games game bytes e fault checked (inr f) = absurd (true≢false (sym f.0))

-- A record that is read, where the opening is not strict.
pub read-answers : (names : NameLists) (games : List ℕ) (game : ℕ) (bytes : List ℕ) (e : Entry) (tags : List Tag) (tree : GameTree) → entry_checked names (length games) game bytes ≡ Ok e →
    record_answer (record_in games (extent_of e)) ≡ Ok (tags, tree) → entry_answer false names games game bytes ≡ Ok e
unfolding entry_answer
read-answers names games game bytes e tags tree checked read = rw (checked, read) refl

-- An entry that passes.
passes-answers : (strict : Bool) (names : NameLists) (games : List ℕ) (game : ℕ) (bytes : List ℕ) (p : Passes strict names games game bytes) → entry_answer strict names games game bytes ≡ Ok p.fields
unfolding entry_answer
passes-answers true names games game bytes p =
    let D : Sig → Type 0 = λ z. derived_fault p.fields z ≡ None in
    let same : derived_fault p.fields (sig_of p.signs.tree) ≡ None = subst D p.signs.signed (p.derived refl) in
    rw (p.checked, p.signs.read.answer, same) refl
passes-answers false names games game bytes p = rw (p.checked, p.signs.read.answer) refl

-- It has no fault.
pub passes_fails : (strict : Bool) (names : NameLists) (games : List ℕ) (game : ℕ) (bytes : List ℕ) (fault : BaseFault) → Passes strict names games game bytes → Fails strict names games game bytes fault → ⊥
passes_fails strict names games game bytes fault p f = ok_err _ p.fields fault (passes-answers strict names games game bytes p) f

-- ---- three files.

entry_fails-one : (strict : Bool) (index : List ℕ) (names : NameLists) (games : List ℕ) (count : ℕ) (fault other : BaseFault) → EntryFails strict index names games count fault → EntryFails strict index names games count other → fault ≡ other
entry_fails-one strict index names games count fault other f g =
    elim (cases_order f.game g.game) [
      | inl same ↦
          let G : ℕ → Type 0 = λ n. Fails strict names games n (entry_bytes index n) fault in
          same_err _ fault other (subst G same f.fails) g.fails
      | inr (inl less) ↦ absurd (g.before f.game less fault f.fails)
      | inr (inr more) ↦ absurd (f.before g.game more other g.fails)
    ]

-- Three files have one first fault.
pub first_fault-one : (strict : Bool) (index names games : List ℕ) (fault other : BaseFault) → FirstFault strict index names games fault → FirstFault strict index names games other → fault ≡ other
first_fault-one strict index names games fault other (inl f) (inl g) = same_err _ fault other f g
first_fault-one strict index names games fault other (inl f) (inr g) = absurd (ok_err _ g.0 fault g.1.0 f)
first_fault-one strict index names games fault other (inr f) (inl g) = absurd (ok_err _ f.0 other f.1.0 g)
first_fault-one strict index names games fault other (inr f) (inr g) =
    let whole : f.0 ≡ g.0 = same_ok _ f.0 g.0 f.1.0 g.1.0 in
    let W : Whole → Type 0 = λ w. EntryFails strict index w.names games w.header.games fault in
    entry_fails-one strict index g.0.names games g.0.header.games fault other (subst W whole f.1.1) g.1.1

-- Files whose entries all pass have none.
pub none_fails : (strict : Bool) (index names games : List ℕ) (whole : Whole) (fault : BaseFault) → whole_read index names ≡ Ok whole →
    ((i : ℕ) → i < whole.header.games → Passes strict whole.names games i (entry_bytes index i)) → FirstFault strict index names games fault → ⊥
none_fails strict index names games whole fault read passes (inl f) = ok_err _ whole fault read f
none_fails strict index names games whole fault read passes (inr f) =
    let same : f.0 ≡ whole = same_ok _ f.0 whole f.1.0 read in
    let W : Whole → Type 0 = λ w. EntryFails strict index w.names games w.header.games fault in
    let fails = subst W same f.1.1 in
    passes_fails strict whole.names games fails.game (entry_bytes index fails.game) fault (passes fails.game fails.there) fails.fails
