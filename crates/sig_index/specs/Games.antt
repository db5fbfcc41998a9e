-- The games of a base as searches see them: what is kept of each, and where its record stands (this project's own).
use Rattle.std.specs.Prelude.{◌≡◌, ℕ, ◌+◌, ◌≤◌, false, List, [], map, take, length, slice_get, slice_index, slice_index_or, Option, None, Some, ⊤}
use Rattle.base_files.specs.declared.extent.Extent.{Extent}
use Rattle.base_files.specs.Counters.{Rose}
use Rattle.base_files.specs.Extents.{record_in}
use Rattle.base_files.specs.Told.{Tells, part_told}
use Rattle.game_tree.specs.Date.{unknown_date}
use Rattle.game_tree.specs.Game.{GameTree}
use Rattle.game_tree.specs.declared.head.Head.{Head}
use Rattle.game_tree.specs.declared.head.Outcome.TheVariants.{Unknown}
use Rattle.game_tree.specs.declared.head.Tag.{Tag}
use Rattle.game_codec.specs.Record.{IsRecord, IsSomeRecord}
use Rattle.sig_index.specs.declared.signature.Sig.{Sig}
use Rattle.sig_index.specs.declared.games.HeadName.{HeadName}
use Rattle.sig_index.specs.declared.games.HeadName.TheVariants as names
use Rattle.sig_index.specs.declared.games.FetchError.{FetchError}
use Rattle.sig_index.specs.declared.games.FetchError.TheVariants.{Failed, Changed}
use Rattle.sig_index.specs.Signature.{IsSig}

-- A head that says nothing.
abbrev pub no_head : Head
no_head = record {
  white = [];
  black = [];
  event = [];
  site = [];
  round = [];
  date = unknown_date;
  event_date = unknown_date;
  result = Unknown;
  white_rating = record { value = 0; kind = 0 };
  black_rating = record { value = 0; kind = 0 };
  eco = 0;
  marks = 0;
  deleted = false;
  tags = [];
}

-- The head of game i; past the last game, one that says nothing.
abbrev pub head_in : List Head → ℕ → Head
head_in heads i = slice_index_or heads i no_head

-- One of the names of a head.
abbrev pub name_in : HeadName → Head → List ℕ
name_in names.White head = head.white
name_in names.Black head = head.black
name_in names.Event head = head.event
name_in names.Site head = head.site
name_in names.Round head = head.round

-- The plies that the signature of game i has.
abbrev pub plies_in : List Sig → ℕ → ℕ
plies_in sigs i = slice_index (map (λ sig. sig.plies) sigs) i

-- Where the record of game i stands; past the last game, no bytes.
abbrev pub extent_in : List Extent → ℕ → Extent
extent_in extents i = slice_index_or extents i (record { offset = 0; len = 0 })

-- Each record ends within the first `known` bytes of the games file.
abbrev pub AreWithin : ℕ → List Extent → Type 0
AreWithin known extents = (i : ℕ) → (extent_in extents i).offset + (extent_in extents i).len ≤ known

-- The bytes at an extent, if the games file is told.
abbrev pub record_told : Option (List ℕ) → Extent → Option (List ℕ)
record_told games extent = part_told games extent.offset extent.len

-- At its extent in the games file stands a record of the game, and this is the game's signature.
pub record IsHeld (games : List ℕ) (extent : Extent) (sig : Sig) (game : GameTree) : Type 0 where
  pub tags : List Tag
  pub is_record : IsRecord (record_in games extent) tags game
  pub is_sig : IsSig game sig

-- The games file holds the records of these games, one at each extent, and these are their signatures.
pub record Holds (games : List ℕ) (extents : List Extent) (sigs : List Sig) (list : List GameTree) : Type 0 where
  pub count : length list ≡ length sigs
  pub each : (i : ℕ) (sig : Sig) (game : GameTree) → slice_get sigs i ≡ Some sig → slice_get list i ≡ Some game
      → IsHeld games (extent_in extents i) sig game

-- What bytes that were read show: no record, or a record of a game with this signature.
abbrev pub Shows : List ℕ → Option Sig → Type 0
Shows bytes None = IsSomeRecord bytes → ⊥
Shows bytes (Some sig) = (tags : List Tag) × ((game : GameTree) × (IsRecord bytes tags game × IsSig game sig))

-- The bytes of a game's record changed: at the front of `buffer` stand the bytes that were read, and they do not show the signature
-- that is kept.
pub record HasChanged (sigs : List Sig) (extents : List Extent) (told : Option (List ℕ)) (buffer : List ℕ) (game : ℕ) (kept : Sig) (found : Option Sig) : Type 0 where
  pub is_kept : slice_get sigs game ≡ Some kept
  pub is_told : Tells (record_told told (extent_in extents game)) (take (extent_in extents game).len buffer)
  pub is_shown : Shows (take (extent_in extents game).len buffer) found
  pub is_other : found ≡ Some kept → ⊥

-- The cause of an error, if the files tell `told` of the games file and their count of faults went from `old` to `new`: a fault was
-- counted, or the bytes in `buffer` are a changed record.
abbrev pub HasFetchCause : FetchError → List Sig → List Extent → Option (List ℕ) → List ℕ → ℕ → ℕ → Type 0
HasFetchCause Failed sigs extents told buffer old new = Rose old new
HasFetchCause (Changed game kept found) sigs extents told buffer old new = HasChanged sigs extents told buffer game kept found

-- An error that names a game names this one.
abbrev pub Names : FetchError → ℕ → Type 0
Names Failed i = ⊤
Names (Changed game kept found) i = game ≡ i
