-- What is found of a game, as the functions of this crate go through it (this project's own).
use Rattle.std.specs.Prelude.{◌≡◌, ◌≤◌, ◌+◌, ◌*◌, ⊤, ℕ, zero, suc, List, length, take, Option, None, Some, Ok, Err, IfSome}
use Rattle.base_files.specs.Extents.{record_in}
use Rattle.index_entry.specs.Entry.{IsEntry, entry_in}
use Rattle.index_entry.specs.Index.{entry_bytes}
use Rattle.index_entry.specs.declared.entry.Entry.{Entry}
use Rattle.name_base.specs.PartNames.{PartLists, filled_names}
use Rattle.base_core.specs.Base.{Held}
use Rattle.base_core.specs.Entries.{extent_of}
use Rattle.base_core.specs.Represents.{Keeps}
use Rattle.base_core.specs.declared.fault.BaseFault.{BaseFault}
use Rattle.game_codec.specs.declared.fault.RecordFault.{RecordFault}
use Rattle.base_core.specs.Reading.{IsMended}
use Rattle.base_core.specs.declared.fault.BaseFault.TheVariants.{Packed}
use Rattle.mend_base.specs.Entries.{entries_found}
use Rattle.mend_base.specs.Fronts.{saved_in, steps_of}
use Rattle.mend_base.specs.Places.{place_of}
use Rattle.mend_base.specs.declared.fronts.Faulty.{Faulty}
use Rattle.mend_base.specs.declared.ways.Way.{Way}
use Rattle.mend_base.specs.declared.finding.Change.{Change}
use Rattle.mend_base.specs.declared.finding.Change.TheVariants as why
use Rattle.mend_base.specs.declared.finding.Find.{Find}
use Rattle.mend_base.specs.declared.finding.Find.TheVariants as find

-- The index has the whole entry of a game.
abbrev pub HasEntry : List ℕ → ℕ → Type 0
HasEntry index game = 229 + 47 * game ≤ length index

-- The bytes of the record of a game, which are asked for.
abbrev pub entry_cost : List ℕ → ℕ → ℕ
entry_cost index game = (entry_in (entry_bytes index game)).len

-- Those of so many games.
abbrev pub entries_cost : List ℕ → ℕ → ℕ
entries_cost index zero = 0
entries_cost index (suc n) = entries_cost index n + entry_cost index n

-- Those of all games whose entries are there.
abbrev pub mend_cost : List ℕ → ℕ
mend_cost index = entries_cost index (entries_found index)

-- A game of a games file comes over with these bytes as its record, and is kept by this entry, which says where they stand in a file.
pub record KeepsWhole (way : Way) (index : List ℕ) (names : PartLists) (games : List ℕ) (game : ℕ) (bytes : List ℕ) (kept : Entry) (change : Option Change) : Type 0 where
  pub held : Held
  pub place : place_of way names games game (entry_bytes index game) ≡ Ok (record { held = held; change = change })
  pub file : List ℕ
  pub stands : bytes ≡ record_in file (extent_of kept)
  pub keeps : Keeps (filled_names names) file kept held

-- What was found of a game is its place. The record of one that comes over is the front of the buffer.
abbrev pub Finds : Way → List ℕ → PartLists → Option (List ℕ) → ℕ → List ℕ → Find → Type 0
Finds way index names told game buf (find.Whole kept change) = IfSome told (λ games. KeepsWhole way index names games game (take kept.len buf) kept change)
Finds way index names told game buf (find.Broken fault) = IfSome told (λ games. place_of way names games game (entry_bytes index game) ≡ Err fault)

-- An entry that a draft takes.
pub record IsTakeable (e : Entry) : Type 0 where
  pub fields : IsEntry e
  pub homes : e.home_count ≤ 16

-- The entry of a whole game is one, whatever the files hold.
abbrev pub IsKeepable : Find → Type 0
IsKeepable (find.Whole kept change) = IsTakeable kept
IsKeepable (find.Broken fault) = ⊤

-- What is saved of bytes with this fault: these bytes, and the entry that keeps what they say.
pub record IsSaved (steps : ℕ) (e : Entry) (bytes : List ℕ) (fault : RecordFault) (left : List ℕ) (kept : Entry) : Type 0 where
  pub mended : IsMended left (record e { offset = 0; len = length left }) kept
  pub saved : saved_in steps bytes (Err fault) ≡ Some (record { bytes = left; read = (mended.1.1.0.tags, mended.1.1.0.tree) })

-- What was found of a game whose record has this fault.
pub record FindsSaved (faulty : Faulty) (game : ℕ) (e : Entry) (bytes : List ℕ) (fault : RecordFault) (left : List ℕ) (kept : Entry) (change : Option Change) : Type 0 where
  pub is_saved : IsSaved (steps_of faulty) e bytes fault left kept
  pub change_is : change ≡ Some (why.Fault (Packed game fault))

pub record FindsNothing (faulty : Faulty) (game : ℕ) (bytes : List ℕ) (fault : RecordFault) (other : BaseFault) : Type 0 where
  pub none_saved : saved_in (steps_of faulty) bytes (Err fault) ≡ None
  pub fault_is : other ≡ Packed game fault

abbrev pub FindsLeft : Faulty → ℕ → Entry → List ℕ → RecordFault → List ℕ → Find → Type 0
FindsLeft faulty game e bytes fault buf (find.Whole kept change) = FindsSaved faulty game e bytes fault (take kept.len buf) kept change
FindsLeft faulty game e bytes fault buf (find.Broken other) = FindsNothing faulty game bytes fault other
