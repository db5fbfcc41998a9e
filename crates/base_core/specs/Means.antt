-- Which base three files mean: an index, names and games (this project's own, over Scid's format si4).
use Rattle.std.specs.Prelude.{◌≡◌, ◌≤◌, ℕ, List, ◌++◌, length, slice_get, None, Some, Ok}
use Rattle.index_entry.specs.declared.entry.Entry.{Entry}
use Rattle.index_entry.specs.Entry.{entry_read}
use Rattle.index_entry.specs.Index.{index_read, entry_bytes}
use Rattle.name_base.specs.NameLists.{NameLists}
use Rattle.name_base.specs.Reading.{names_at}
use Rattle.base_core.specs.Base.{Base, Held}
use Rattle.base_core.specs.Entries.{Says}
use Rattle.base_core.specs.FirstFault.{id_fault}

-- These 47 bytes are the entry of a game. What the entry repeats of the record, its derived fields, is not compared with it.
pub record IsEntryOf (names : NameLists) (games bytes : List ℕ) (held : Held) : Type 0 where
  pub fields : Entry
  pub read : entry_read bytes ≡ Ok fields
  pub named : id_fault names fields ≡ None
  pub says : Says names games fields held

-- There is a game for each entry of the index, and each is its entry's game.
pub record AreGames (index : List ℕ) (names : NameLists) (games : List ℕ) (count : ℕ) (all : List Held) : Type 0 where
  pub long : length all ≡ count
  pub each : (i : ℕ) (held : Held) → slice_get all i ≡ Some held → IsEntryOf names games (entry_bytes index i) held

-- The three files mean this base.
pub record Means (index names games : List ℕ) (base : Base) : Type 0 where
  pub header : index_read index ≡ Ok base.header
  pub lists : names_at names ≡ Ok base.names
  pub end : base.end ≡ length games
  pub held : AreGames index base.names games base.header.games base.games

-- The same names, and others behind them or none: each name keeps its id.
pub record HoldsNames (all names : NameLists) : Type 0 where
  pub players : (more : List (List ℕ)) × (all.players ≡ names.players ++ more)
  pub events : (more : List (List ℕ)) × (all.events ≡ names.events ++ more)
  pub sites : (more : List (List ℕ)) × (all.sites ≡ names.sites ++ more)
  pub rounds : (more : List (List ℕ)) × (all.rounds ≡ names.rounds ++ more)

-- The three files carry this base: they mean it, but that the names file may hold further names, and that the games file may be longer.
pub record Carries (index names games : List ℕ) (base : Base) : Type 0 where
  pub header : index_read index ≡ Ok base.header
  pub all_names : NameLists
  pub lists : names_at names ≡ Ok all_names
  pub more_names : HoldsNames all_names base.names
  pub end : base.end ≤ length games
  pub held : AreGames index base.names games base.header.games base.games
