-- What is looked at when a base is opened, in this order, and which fault comes first (this project's own).
use Rattle.std.specs.Prelude.{◌≡◌, ◌<◌, ◌+◌, ◌%◌, ◌⊎◌, ℕ, Bool, not, nat_eq, nat_le, nat_lt, if◌then◌else◌, IsTrue, List, length, bytes_eq, Option, Some, None, Result, Ok, Err}
use Rattle.std.specs.Bool.{beq}
use Rattle.base_files.specs.Extents.{block_len, record_in}
use Rattle.cell_core.specs.Steps.{blamed, ◌>>=◌}
use Rattle.game_tree.specs.Game.{GameTree}
use Rattle.game_tree.specs.declared.head.Tag.{Tag}
use Rattle.game_codec.specs.Record.{IsRecord}
use Rattle.game_codec.specs.RecordAnswer.{record_answer}
use Rattle.index_entry.specs.Entry.{entry_read}
use Rattle.index_entry.specs.Index.{index_read, entry_bytes}
use Rattle.index_entry.specs.declared.entry.Entry.{Entry}
use Rattle.index_entry.specs.declared.index.IndexHead.{IndexHead}
use Rattle.name_base.specs.NameLists.{NameLists}
use Rattle.name_base.specs.Reading.{names_at}
use Rattle.sig_index.specs.Signature.{IsSig, sig_of}
use Rattle.sig_index.specs.declared.signature.Sig.{Sig}
use Rattle.base_core.specs.Entries.{extent_of}
use Rattle.base_core.specs.declared.fault.BaseFault.{BaseFault}
use Rattle.base_core.specs.declared.fault.BaseFault.TheVariants.{Index, Names, EntryField, Id, Place, Packed, Derived}
use Rattle.base_core.specs.declared.fault.IdField.{IdField}
use Rattle.base_core.specs.declared.fault.IdField.TheVariants as id
use Rattle.base_core.specs.declared.fault.PlaceWhat.{PlaceWhat}
use Rattle.base_core.specs.declared.fault.PlaceWhat.TheVariants as place
use Rattle.base_core.specs.declared.fault.DerivedField.{DerivedField}
use Rattle.base_core.specs.declared.fault.DerivedField.TheVariants as derived

-- What comes next, unless there is a fault.
abbrev pub unless : {A E : Type 0} → (E → BaseFault) → Option E → Result A BaseFault → Result A BaseFault
unless blame None next = next
unless blame (Some fault) next = Err (blame fault)

-- 1, 2. What the whole base has: the header of the index, and the names.
pub record Whole : Type 0 where
  pub header : IndexHead
  pub names : NameLists

unfoldable pub whole_read : List ℕ → List ℕ → Result Whole BaseFault
whole_read index names = do
  header ← blamed Index (index_read index)
  lists ← blamed Names (names_at names)
  Ok (record { header = header; names = lists })

-- 3. What each entry has. The first of its ids that no name has.
unfoldable pub id_fault : NameLists → Entry → Option IdField
id_fault names e =
    if nat_le (length names.players) e.white then Some id.White
    else if nat_le (length names.players) e.black then Some id.Black
    else if nat_le (length names.events) e.event then Some id.Event
    else if nat_le (length names.sites) e.site then Some id.Site
    else if nat_le (length names.rounds) e.round then Some id.Round
    else None

-- Its record crosses the end of a block, or else ends behind the games file.
unfoldable pub place_fault : ℕ → Entry → Option PlaceWhat
place_fault end e =
    if nat_lt block_len (e.offset % block_len + e.len) then Some place.Crosses
    else if nat_lt end (e.offset + e.len) then Some place.Past
    else None

-- What its 47 bytes say, or the first fault of its fields, its ids, the place of its record.
unfoldable pub entry_checked : NameLists → ℕ → ℕ → List ℕ → Result Entry BaseFault
entry_checked names end game bytes = do
  e ← blamed (λ what. EntryField game what) (entry_read bytes)
  unless (λ field. Id game field) (id_fault names e) (unless (λ what. Place game what) (place_fault end e) (Ok e))

-- The first of its derived fields that differs from the signature. Both lists of home values have zeros behind their count.
unfoldable pub derived_fault : Entry → Sig → Option DerivedField
derived_fault e s =
    if not (beq e.own_start s.own_start) then Some derived.OwnStart
    else if not (beq e.promo s.promo) then Some derived.Promotion
    else if not (beq e.under s.under) then Some derived.Underpromotion
    else if not (nat_eq e.vars s.vars) then Some derived.Variations
    else if not (nat_eq e.comments s.comments) then Some derived.Comments
    else if not (nat_eq e.nags s.nags) then Some derived.Nags
    else if not (bytes_eq e.material s.material) then Some derived.Material
    else if not (nat_eq e.plies s.plies) then Some derived.Plies
    else if not (nat_eq e.home_count s.home.count) then Some derived.Home
    else if not (bytes_eq e.home s.home.values) then Some derived.Home
    else None

-- The bytes are a record of a game with this signature.
pub record Signs (bytes : List ℕ) (s : Sig) : Type 0 where
  pub tags : List Tag
  pub tree : GameTree
  pub read : IsRecord bytes tags tree
  pub signed : IsSig tree s

-- The entry of a game has no fault; derived fields count if the opening is strict.
pub record Passes (strict : Bool) (names : NameLists) (games : List ℕ) (game : ℕ) (bytes : List ℕ) : Type 0 where
  pub fields : Entry
  pub checked : entry_checked names (length games) game bytes ≡ Ok fields
  pub sig : Sig
  pub signs : Signs (record_in games (extent_of fields)) sig
  pub derived : IsTrue strict → derived_fault fields sig ≡ None

-- So do the first so many entries.
abbrev pub AllPass : Bool → List ℕ → NameLists → List ℕ → ℕ → Type 0
AllPass strict index names games count = (i : ℕ) → i < count → Passes strict names games i (entry_bytes index i)

-- What the entry of a game says, or its first fault: of the entry itself, of its record, of its derived fields if the opening is strict.
unfoldable pub entry_answer : Bool → NameLists → List ℕ → ℕ → List ℕ → Result Entry BaseFault
entry_answer strict names games game bytes = do
  e ← entry_checked names (length games) game bytes
  read ← blamed (λ what. Packed game what) (record_answer (record_in games (extent_of e)))
  unless (λ field. Derived game field) (if strict then derived_fault e (sig_of read.1) else None) (Ok e)

-- The entry of a game has this first fault.
abbrev pub Fails : Bool → NameLists → List ℕ → ℕ → List ℕ → BaseFault → Type 0
Fails strict names games game bytes fault = entry_answer strict names games game bytes ≡ Err fault

-- One of so many entries has this fault, and none before it has one.
pub record EntryFails (strict : Bool) (index : List ℕ) (names : NameLists) (games : List ℕ) (count : ℕ) (fault : BaseFault) : Type 0 where
  pub game : ℕ
  pub there : game < count
  pub before : (i : ℕ) → i < game → (earlier : BaseFault) → Fails strict names games i (entry_bytes index i) earlier → ⊥
  pub fails : Fails strict names games game (entry_bytes index game) fault

-- The first fault of three files: of the whole base, or of an entry.
abbrev pub FirstFault : Bool → List ℕ → List ℕ → List ℕ → BaseFault → Type 0
FirstFault strict index names games fault =
    (whole_read index names ≡ Err fault)
    ⊎ ((whole : Whole) × ((whole_read index names ≡ Ok whole) × EntryFails strict index whole.names games whole.header.games fault))
