-- A base that is open: what it keeps beside its games file, and which base that is (this project's own).
use Rattle.std.specs.Prelude.{◌≡◌, ◌≤◌, ℕ, Bool, List, [], All, length, map, slice_get, Some, None, is_some, count_by}
use Rattle.std.specs.List.{enumerate_from}
use Rattle.base_files.specs.declared.extent.Extent.{Extent}
use Rattle.game_tree.specs.declared.head.Head.{Head}
use Rattle.index_entry.specs.declared.entry.Entry.{Entry}
use Rattle.index_entry.specs.declared.index.IndexHead.{IndexHead}
use Rattle.index_entry.specs.Entry.{IsEntry, entry_in}
use Rattle.index_entry.specs.Index.{IsIndexHead, entry_bytes}
use Rattle.name_base.specs.NameLists.{NameLists, AreSound}
use Rattle.sig_index.specs.Signature.{IsSig, sig_of}
use Rattle.sig_index.specs.declared.signature.Sig.{Sig}
use Rattle.base_core.specs.Base.{Base, Held}
use Rattle.base_core.specs.Entries.{HasNames, Says, extent_of, head_of, sig_in}
use Rattle.base_core.specs.FirstFault.{derived_fault, place_fault}

-- What an open base keeps: the header, the names, an entry for each game, the length of the games file, and whether it has changes that
-- were not saved.
pub record Kept : Type 0 where
  pub header : IndexHead
  pub names : NameLists
  pub entries : List Entry
  pub end : ℕ
  pub unsaved : Bool

-- The entry that is kept of a game: it says the game, with its event date settled and the game's own signature.
pub record Keeps (names : NameLists) (games : List ℕ) (e : Entry) (held : Held) : Type 0 where
  pub says : Says names games e held
  pub event_date : held.head.event_date ≡ e.event_date
  pub signed : IsSig held.game (sig_in e)

-- What is kept stands for this base, beside this games file.
pub record Represents (kept : Kept) (games : List ℕ) (base : Base) : Type 0 where
  pub header : kept.header ≡ base.header
  pub names : kept.names ≡ base.names
  pub end : kept.end ≡ base.end
  pub count : length kept.entries ≡ length base.games
  pub each : (i : ℕ) (e : Entry) (held : Held) → slice_get kept.entries i ≡ Some e → slice_get base.games i ≡ Some held → Keeps kept.names games e held

-- A kept entry, whatever the games file holds. Its fields are in their ranges, its ids have names, its record lies
-- within the games file, and it has at most sixteen home values.
pub record IsKept (names : NameLists) (end : ℕ) (e : Entry) : Type 0 where
  pub fields : IsEntry e
  pub named : HasNames names e
  pub placed : place_fault end e ≡ None
  pub homes : e.home_count ≤ 16

-- What every open base keeps.
pub record IsSound (kept : Kept) : Type 0 where
  pub header : IsIndexHead kept.header
  pub count : length kept.entries ≡ kept.header.games
  pub names : AreSound kept.names
  pub entries : All (IsKept kept.names kept.end) kept.entries

-- The heads without their tags, the signatures and the places of the records of the games, as searches see them.
abbrev pub heads_of : Kept → List Head
heads_of kept = map (λ e. head_of kept.names e []) kept.entries

abbrev pub sigs_of : Kept → List Sig
sigs_of kept = map sig_in kept.entries

abbrev pub extents_of : Kept → List Extent
extents_of kept = map extent_of kept.entries

-- So many of these games have an entry in the index of which a derived field differs from the game's.
abbrev pub Mended : List ℕ → List Held → ℕ → Type 0
Mended index all mended =
    mended ≡ count_by (λ game. is_some (derived_fault (entry_in (entry_bytes index game.0)) (sig_of game.1.game))) (enumerate_from 0 all)
