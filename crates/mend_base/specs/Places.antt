-- What is whole of three files that may be faulty: one place for each entry, with the game or its first fault (this project's own, over Scid's
-- format si4). A game whose record has a fault is left out, or comes over with what is saved of it. A field that stands for nothing is as if it was
-- not given, and a name that is missing has `?` in its place: no game is left out for either.
use Rattle.std.specs.Prelude.{◌+◌, ℕ, zero, suc, not, nat_lt, if◌then◌else◌, List, [], ◌∷◌, ◌++◌, length, Option, None, Some, is_some, Result, Ok, Err}
use Rattle.base_files.specs.Extents.{record_in}
use Rattle.cell_core.specs.Steps.{◌>>=◌}
use Rattle.game_codec.specs.RecordAnswer.{record_answer}
use Rattle.game_codec.specs.declared.fault.RecordFault.{RecordFault}
use Rattle.game_tree.specs.Game.{GameTree}
use Rattle.game_tree.specs.Settle.{settled}
use Rattle.game_tree.specs.declared.head.Tag.{Tag}
use Rattle.index_entry.specs.Entry.{fault_in}
use Rattle.index_entry.specs.Index.{entry_bytes}
use Rattle.index_entry.specs.declared.entry.Entry.{Entry}
use Rattle.index_entry.specs.declared.fault.EntryFault.{EntryFault}
use Rattle.index_entry.specs.declared.index.IndexHead.{IndexHead}
use Rattle.name_base.specs.NameLists.{NameLists}
use Rattle.name_base.specs.PartNames.{PartLists, filled_names, name_met}
use Rattle.base_core.specs.Base.{Base, Held, empty_base}
use Rattle.base_core.specs.Compacted.{only}
use Rattle.base_core.specs.Entries.{extent_of, head_of}
use Rattle.base_core.specs.FirstFault.{place_fault, unless}
use Rattle.base_core.specs.declared.fault.BaseFault.{BaseFault}
use Rattle.base_core.specs.declared.fault.BaseFault.TheVariants.{EntryField, Id, Packed, Place as PlaceFault}
use Rattle.base_core.specs.declared.fault.IdField.{IdField}
use Rattle.base_core.specs.declared.fault.IdField.TheVariants as id
use Rattle.mend_base.specs.Fields.{known_in}
use Rattle.mend_base.specs.Fronts.{Saved, saved_in, steps_of}
use Rattle.mend_base.specs.declared.finding.Change.{Change}
use Rattle.mend_base.specs.declared.finding.Change.TheVariants as why
use Rattle.mend_base.specs.declared.ways.Way.{Way}

-- A game that comes over, and why it is changed, if it is.
pub record Found : Type 0 where
  pub held : Held
  pub change : Option Change

-- The place of a game in the list: the game, or its first fault.
abbrev pub Place : Type 0
Place = Result Found BaseFault

-- The first of the ids of an entry that no name has, as far as the names go.
unfoldable pub missing_in : PartLists → Entry → Option IdField
missing_in names e =
    if not (is_some (name_met names.players e.white)) then Some id.White
    else if not (is_some (name_met names.players e.black)) then Some id.Black
    else if not (is_some (name_met names.events e.event)) then Some id.Event
    else if not (is_some (name_met names.sites e.site)) then Some id.Site
    else if not (is_some (name_met names.rounds e.round)) then Some id.Round
    else None

-- The game of an entry and of what its record says.
abbrev pub held_by : NameLists → Entry → List Tag × GameTree → Held
held_by names e read = record { head = settled (head_of names e read.0); game = read.1; len = e.len }

-- The first fault for which a game is changed: of a field of its entry, or else an id that no name has.
abbrev pub change_by : ℕ → Option EntryFault → Option IdField → Option Change
change_by game (Some what) missing = Some (why.Fault (EntryField game what))
change_by game None (Some field) = Some (why.Fault (Id game field))
change_by game None None = None

-- Why a game is changed: for such a fault, or since the index file has no entry of it.
abbrev pub change_from : Way → PartLists → ℕ → Option EntryFault → Entry → Option Change
change_from way names game fault e = if nat_lt game way.known then change_by game fault (missing_in names e) else Some (why.Loose e.offset)

unfoldable pub change_in : Way → PartLists → ℕ → List ℕ → Option Change
change_in way names game bytes = change_from way names game (fault_in bytes) (known_in bytes)

-- An entry whose record may stand where it says.
abbrev pub placed : ℕ → ℕ → Entry → Result Entry BaseFault
placed end game e = unless (λ what. PlaceFault game what) (place_fault end e) (Ok e)

-- The place of a game whose record has this first fault: with what is saved of its record, or the fault where nothing is.
abbrev pub saved_place : PartLists → ℕ → Entry → RecordFault → Option Saved → Place
saved_place names game e fault None = Err (Packed game fault)
saved_place names game e fault (Some saved) =
    Ok (record { held = held_by (filled_names names) (record e { offset = 0; len = length saved.bytes }) saved.read; change = Some (why.Fault (Packed game fault)) })

-- The place of a game with this entry, by the answer to the bytes of its record.
abbrev pub answered_place : Way → PartLists → ℕ → List ℕ → Entry → List ℕ → Result (List Tag × GameTree) RecordFault → Place
answered_place way names game packed e bytes (Ok read) = Ok (record { held = held_by (filled_names names) e read; change = change_in way names game packed })
answered_place way names game packed e bytes (Err fault) = saved_place names game e fault (saved_in (steps_of way.faulty) bytes (Err fault))

-- The place of a game with this entry: the game, without the fields that stand for nothing, and with `?` for each missing name. It is a fault if
-- the record cannot stand where the entry says, or if nothing is saved of the record.
unfoldable pub place_of : Way → PartLists → List ℕ → ℕ → List ℕ → Place
place_of way names games game bytes = do
  e ← placed (length games) game (known_in bytes)
  answered_place way names game bytes e (record_in games (extent_of e)) (record_answer (record_in games (extent_of e)))

-- The places of so many games, the first ones.
abbrev pub places_of : Way → List ℕ → PartLists → List ℕ → ℕ → List Place
places_of way index names games zero = []
places_of way index names games (suc n) = places_of way index names games n ++ place_of way names games n (entry_bytes index n) ∷ []

-- ---- what comes of the places.

-- The games that come over, in order.
abbrev pub games_of : List Place → List Held
games_of [] = []
games_of (Ok found ∷ places) = found.held ∷ games_of places
games_of (Err fault ∷ places) = games_of places

-- How many of them are changed.
abbrev pub changed_of : List Place → ℕ
changed_of [] = 0
changed_of (Ok found ∷ places) = (if is_some found.change then 1 else 0) + changed_of places
changed_of (Err fault ∷ places) = changed_of places

-- The new base: these games with their names, their records placed from the beginning of its games file.
abbrev pub mended_base : IndexHead → List Held → Base
mended_base header games = only games (record empty_base { header = header })
