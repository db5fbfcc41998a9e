-- What is told of a base that is mended, in order (this project's own).
use Rattle.std.specs.Prelude.{◌≡◌, ◌+◌, ◌-◌, ℕ, nat_eq, nat_lt, if◌then◌else◌, List, [], ◌∷◌, ◌++◌, Option, None, Some, Result, Ok, Err}
use Rattle.index_entry.specs.Index.{header_read}
use Rattle.index_entry.specs.declared.fault.IndexFault.{IndexFault}
use Rattle.index_entry.specs.declared.fault.IndexFault.TheVariants.{Length}
use Rattle.index_entry.specs.declared.index.IndexHead.{IndexHead}
use Rattle.name_base.specs.PartNames.{PartLists}
use Rattle.base_core.specs.declared.fault.BaseFault.TheVariants.{Index}
use Rattle.mend_base.specs.Entries.{entries_found, head_found}
use Rattle.mend_base.specs.Places.{Place, places_of}
use Rattle.mend_base.specs.declared.finding.Change.{Change}
use Rattle.mend_base.specs.declared.finding.Change.TheVariants as why
use Rattle.mend_base.specs.declared.ways.Way.{Way}
use Rattle.mend_base.specs.declared.report.Note.{Note}
use Rattle.mend_base.specs.declared.report.Note.TheVariants as line

-- Of the index: the fault of its header if its entries are tried all the same, and that it has not as many entries as its header counts.
abbrev pub notes_of_fault : Result IndexHead IndexFault → List Note
notes_of_fault (Ok head) = []
notes_of_fault (Err fault) = line.Tried fault ∷ []

abbrev pub notes_of_count : ℕ → ℕ → List Note
notes_of_count counted found = if nat_eq counted found then [] else line.Counted counted found ∷ []

abbrev pub notes_of_head : Way → List ℕ → IndexHead → List Note
notes_of_head way index header = notes_of_fault (header_read index) ++ notes_of_count header.games way.known

-- Of a game: why it is left out, or the first fault for which it is changed, or where its record was found.
abbrev pub notes_of_change : ℕ → Option Change → List Note
notes_of_change game None = []
notes_of_change game (Some (why.Fault fault)) = line.Changed game fault ∷ []
notes_of_change game (Some (why.Loose place)) = line.Took game place ∷ []

abbrev pub notes_of_place : ℕ → Place → List Note
notes_of_place game (Ok found) = notes_of_change game found.change
notes_of_place game (Err fault) = line.LeftOut game fault ∷ []

-- Of all games from this number on.
abbrev pub notes_from : ℕ → List Place → List Note
notes_from game [] = []
notes_from game (place ∷ places) = notes_of_place game place ++ notes_from (game + 1) places

-- Of the games that are counted and do not come over since the index is too short: the first and the last of them.
abbrev pub notes_of_rest : Way → List ℕ → IndexHead → List Note
notes_of_rest way index header =
    if nat_lt (entries_found index) header.games
    then line.NotThere (entries_found index) (header.games - 1) (Index (Length way.len)) ∷ []
    else []

-- All that is told. Nothing is told of an index that is not mended.
abbrev pub notes_with : Result IndexHead IndexFault → Way → List ℕ → PartLists → List ℕ → List Note
notes_with (Err fault) way index names games = []
notes_with (Ok header) way index names games =
    notes_of_head way index header ++ (notes_from 0 (places_of way index names games (entries_found index)) ++ notes_of_rest way index header)

abbrev pub all_notes : Way → List ℕ → PartLists → List ℕ → List Note
all_notes way index names games = notes_with (head_found index) way index names games

-- ---- what a report was told.

-- What is told with these notes behind the others: a report that tells nothing goes on telling nothing.
abbrev pub with_notes : Option (List Note) → List Note → Option (List Note)
with_notes None notes = None
with_notes (Some told) notes = Some (told ++ notes)

-- With one note more.
abbrev pub with_note : Option (List Note) → Note → Option (List Note)
with_note told note = with_notes told (note ∷ [])

-- No more than these notes were told, from the first on.
pub record Began (notes : List Note) (before after : Option (List Note)) : Type 0 where
  pub told : List Note
  pub rest : List Note
  pub begins : told ++ rest ≡ notes
  pub tells : after ≡ with_notes before told
