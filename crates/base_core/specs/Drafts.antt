-- A base that is made of games of another one, as what is kept of both (this project's own).
use Rattle.std.specs.Prelude.{◌≡◌, ◌≤◌, ℕ, ◌+◌, IsTrue, false, List, [], ◌++◌, length, slice_get, Option, None, Some}
use Rattle.std.specs.List.{AllByRecursion}
use Rattle.base_files.specs.Extents.{record_in}
use Rattle.block_store.specs.Placing.{end_after, longest_file, padded}
use Rattle.index_entry.specs.declared.entry.Entry.{Entry}
use Rattle.index_entry.specs.declared.index.IndexHead.{IndexHead}
use Rattle.name_base.specs.NameLists.{NameLists, is_in, no_names}
use Rattle.base_core.specs.declared.naming.NameIds.{NameIds}
use Rattle.base_core.specs.Base.{Base, Held}
use Rattle.base_core.specs.Edits.{with_game}
use Rattle.base_core.specs.Entries.{extent_of}
use Rattle.base_core.specs.Represents.{Keeps, Kept, Represents}

-- What is kept of a base, without its games, its names and its records.
abbrev pub emptied : Kept → Kept
emptied kept = record { header = record kept.header { games = 0 }; names = no_names; entries = []; end = 0; unsaved = false }

-- What is kept of a draft of no games, with what this header says of the whole base.
abbrev pub begun : IndexHead → Kept
begun header = record { header = record header { games = 0 }; names = no_names; entries = []; end = 0; unsaved = false }

-- Each of the first names is one of the others.
abbrev pub AreAmong : List (List ℕ) → List (List ℕ) → Type 0
AreAmong names whole = AllByRecursion (λ name. IsTrue (is_in whole name)) names

-- Each name of the first is a name of the same kind in the second.
pub record AreNamesOf (names whole : NameLists) : Type 0 where
  pub players : AreAmong names.players whole.players
  pub events : AreAmong names.events whole.events
  pub sites : AreAmong names.sites whole.sites
  pub rounds : AreAmong names.rounds whole.rounds

-- The length of the record of game i.
abbrev pub length_in : Option Entry → ℕ
length_in None = 0
length_in (Some e) = e.len

abbrev pub length_at : ℕ → Kept → ℕ
length_at i kept = length_in (slice_get kept.entries i)

-- The entry with other ids and another place of its record.
unfoldable pub placed_entry : Entry → NameIds → ℕ → Entry
placed_entry e ids offset = record e { offset = offset; white = ids.white; black = ids.black; event = ids.event; site = ids.site; round = ids.round }

-- There is one game more, whose record has so many bytes and comes last.
pub record Grows (len : ℕ) (old new : Kept) : Type 0 where
  pub header : new.header ≡ record old.header { games = old.header.games + 1 }
  pub count : length new.entries ≡ length old.entries + 1
  pub end : new.end ≡ end_after old.end len
  pub room : new.end ≤ longest_file
  pub unsaved : new.unsaved ≡ old.unsaved

-- Game i of a base was taken over into a draft. If the base and the draft stood for plain bases beside their games
-- files, the draft now stands for its base with that game. Its games file then has the record of the game too, behind
-- zero bytes or none.
abbrev pub TakesOver : ℕ → Kept → Kept → Kept → Type 0
TakesOver i of old new =
    (e : Entry) (held : Held) (games fresh : List ℕ) (whole made : Base) → slice_get of.entries i ≡ Some e → slice_get whole.games i ≡ Some held
    → Represents of games whole → length fresh ≡ old.end → Represents old fresh made
    → Represents new (fresh ++ padded old.end (record_in games (extent_of e))) (with_game held made)

-- A game was taken into a draft by an entry, with these names by their ids. If the entry keeps the game beside its
-- games file, and the draft stood for a base beside a new games file, the draft now stands for that base with the game.
-- The new games file then has the record of the game too, behind zero bytes or none.
abbrev pub Takes : NameLists → Entry → Kept → Kept → Type 0
Takes names e old new =
    (held : Held) (games fresh : List ℕ) (made : Base) → Keeps names games e held → length fresh ≡ old.end → Represents old fresh made
    → Represents new (fresh ++ padded old.end (record_in games (extent_of e))) (with_game held made)
