-- What is read of a game when a base is opened, as the functions of this crate go through it (this project's own).
use Rattle.std.specs.Prelude.{◌≡◌, ◌≤◌, ◌+◌, ◌⊎◌, ℕ, Bool, false, IsTrue, List, length, slice_get, Option, Some, None, is_some, count_by, Ok}
use Rattle.base_files.specs.Extents.{record_in}
use Rattle.game_tree.specs.Game.{GameTree}
use Rattle.game_tree.specs.Settle.{settled}
use Rattle.game_tree.specs.declared.date.Date.{Date}
use Rattle.game_tree.specs.declared.head.Tag.{Tag}
use Rattle.game_codec.specs.Record.{IsRecord}
use Rattle.game_codec.specs.Fault.{IsRecordFault}
use Rattle.game_codec.specs.declared.fault.RecordFault.{RecordFault}
use Rattle.index_entry.specs.Entry.{entry_read}
use Rattle.index_entry.specs.Index.{entry_bytes}
use Rattle.index_entry.specs.declared.entry.Entry.{Entry}
use Rattle.name_base.specs.NameLists.{NameLists}
use Rattle.sig_index.specs.Signature.{IsSig}
use Rattle.sig_index.specs.declared.signature.Sig.{Sig}
use Rattle.base_core.specs.declared.fault.BaseFault.{BaseFault}
use Rattle.base_core.specs.declared.fault.BaseFault.TheVariants.{Packed, Derived}
use Rattle.base_core.specs.declared.fault.DerivedField.{DerivedField}
use Rattle.base_core.specs.Base.{Held}
use Rattle.base_core.specs.Entries.{Says, extent_of, head_of}
use Rattle.base_core.specs.FirstFault.{Signs, derived_fault, entry_checked}
use Rattle.base_core.specs.Represents.{Keeps}

-- The entry with the derived fields of a signature and this event date.
unfoldable pub kept_entry : Entry → Sig → Date → Entry
kept_entry e s date = record e {
  own_start = s.own_start;
  promo = s.promo;
  under = s.under;
  vars = s.vars;
  comments = s.comments;
  nags = s.nags;
  event_date = date;
  material = s.material;
  plies = s.plies;
  home_count = s.home.count;
  home = s.home.values;
}

-- The bytes are a record of a game with this signature.
abbrev pub HasSig : List ℕ → Sig → Type 0
HasSig bytes s = (tags : List Tag) × ((tree : GameTree) × (IsRecord bytes tags tree × IsSig tree s))

-- The bytes are a record of a game with this signature, and of tags with which an entry's head has this event date when it is settled.
pub record IsSigned (bytes : List ℕ) (e : Entry) (s : Sig) (date : Date) : Type 0 where
  pub tags : List Tag
  pub tree : GameTree
  pub read : IsRecord bytes tags tree
  pub signed : IsSig tree s
  pub dated : (names : NameLists) → (settled (head_of names e tags)).event_date ≡ date

-- The bytes of an entry's record say what is then kept of the entry, and whether that mends it.
pub record IsTaken (strict : Bool) (bytes : List ℕ) (e kept : Entry) (mended : Bool) : Type 0 where
  pub sig : Sig
  pub date : Date
  pub signed : IsSigned bytes e sig date
  pub keeps : kept ≡ kept_entry e sig date
  pub mends : mended ≡ is_some (derived_fault e sig)
  pub strictly : IsTrue strict → mended ≡ false

-- The record of an entry is none, with this first fault, or the opening is strict, and a derived field differs from the record's signature.
abbrev pub IsNotTaken : Bool → ℕ → List ℕ → Entry → BaseFault → Type 0
IsNotTaken strict game bytes e fault =
    ((what : RecordFault) × (IsRecordFault bytes what × (fault ≡ Packed game what)))
    ⊎ (IsTrue strict × ((s : Sig) × (Signs bytes s × ((field : DerivedField) × ((derived_fault e s ≡ Some field) × (fault ≡ Derived game field))))))

-- The entry with what the bytes of its record say.
abbrev pub IsMended : List ℕ → Entry → Entry → Type 0
IsMended bytes e kept = (sig : Sig) × ((date : Date) × (IsSigned bytes e sig date × (kept ≡ kept_entry e sig date)))

-- What was read of one game: the game, the signature of which the entry may differ, and what is kept.
pub record IsRead (strict : Bool) (names : NameLists) (games : List ℕ) (game : ℕ) (bytes : List ℕ) (kept : Entry) (held : Held) (field : Option DerivedField) : Type 0 where
  pub fields : Entry
  pub checked : entry_checked names (length games) game bytes ≡ Ok fields
  pub sig : Sig
  pub signs : Signs (record_in games (extent_of fields)) sig
  pub says : Says names games fields held
  pub signed : IsSig held.game sig
  pub keeps : Keeps names games kept held
  pub differs : derived_fault fields sig ≡ field
  pub strictly : IsTrue strict → field ≡ None

-- The same of a game, with whether its entry is mended.
pub record IsReadSo (strict : Bool) (names : NameLists) (games : List ℕ) (game : ℕ) (bytes : List ℕ) (kept : Entry) (mended : Bool) : Type 0 where
  pub held : Held
  pub field : Option DerivedField
  pub read : IsRead strict names games game bytes kept held field
  pub mends : mended ≡ is_some field

-- What was read of as many games as there are entries here.
pub record AreRead (strict : Bool) (index : List ℕ) (names : NameLists) (games : List ℕ) (entries : List Entry) (mended : ℕ) : Type 0 where
  pub all : List Held
  pub fields : List (Option DerivedField)
  pub held : length all ≡ length entries
  pub compared : length fields ≡ length entries
  pub each : (i : ℕ) (e : Entry) (held : Held) (field : Option DerivedField) → slice_get entries i ≡ Some e → slice_get all i ≡ Some held → slice_get fields i ≡ Some field →
      IsRead strict names games i (entry_bytes index i) e held field
  pub mends : mended ≡ count_by is_some fields
  pub strictly : IsTrue strict → mended ≡ 0

-- The bytes are a record of a game that has a signature, or have a first fault.
abbrev pub IsDecided : List ℕ → Type 0
IsDecided bytes = ((s : Sig) × Signs bytes s) ⊎ ((what : RecordFault) × IsRecordFault bytes what)

-- So are those of the record of a game, if its entry can be read and the record lies within the games file.
abbrev pub IsGameDecided : List ℕ → List ℕ → ℕ → Type 0
IsGameDecided index games game =
    (e : Entry) → entry_read (entry_bytes index game) ≡ Ok e → e.offset + e.len ≤ length games → IsDecided (record_in games (extent_of e))
