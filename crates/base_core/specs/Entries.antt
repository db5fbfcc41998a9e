-- What an entry of the index says of its game, with the names and the record that it points to (Scid's format si4; the rule of event
-- dates this project's own).
use Rattle.std.specs.Prelude.{◌≡◌, ◌<◌, ◌≤◌, ◌+◌, ℕ, List, [], length, slice_get, unwrap_or}
use Rattle.base_files.specs.Extents.{record_in}
use Rattle.base_files.specs.declared.extent.Extent.{Extent}
use Rattle.game_tree.specs.Settle.{settled}
use Rattle.game_tree.specs.declared.head.Head.{Head}
use Rattle.game_tree.specs.declared.head.Tag.{Tag}
use Rattle.game_codec.specs.Record.{IsRecord}
use Rattle.index_entry.specs.declared.entry.Entry.{Entry}
use Rattle.name_base.specs.NameLists.{NameLists}
pub use Rattle.sig_index.specs.Signature.{sig_in}
use Rattle.base_core.specs.Base.{Held}

-- Where the game's record stands in the games file.
abbrev pub extent_of : Entry → Extent
extent_of e = record { offset = e.offset; len = e.len }

-- Each id of the entry is that of a name of its kind.
pub record HasNames (names : NameLists) (e : Entry) : Type 0 where
  pub white : e.white < length names.players
  pub black : e.black < length names.players
  pub event : e.event < length names.events
  pub site : e.site < length names.sites
  pub round : e.round < length names.rounds

-- The name with an id.
abbrev pub name_at : List (List ℕ) → ℕ → List ℕ
name_at names id = unwrap_or (slice_get names id) []

-- The head of an entry's fields, the names of its ids, and these extra tags.
unfoldable pub head_of : NameLists → Entry → List Tag → Head
head_of names e given = record {
  white = name_at names.players e.white;
  black = name_at names.players e.black;
  event = name_at names.events e.event;
  site = name_at names.sites e.site;
  round = name_at names.rounds e.round;
  date = e.date;
  event_date = e.event_date;
  result = e.result;
  white_rating = e.white_rating;
  black_rating = e.black_rating;
  eco = e.eco;
  marks = e.marks;
  deleted = e.deleted;
  tags = given;
}

-- The entry says this game. Its record lies within the games file and is one of the game and of some extra tags. The
-- head is that of the entry and of these tags, settled, and the length is that of the record.
pub record Says (names : NameLists) (games : List ℕ) (e : Entry) (held : Held) : Type 0 where
  pub tags : List Tag
  pub within : e.offset + e.len ≤ length games
  pub read : IsRecord (record_in games (extent_of e)) tags held.game
  pub head : held.head ≡ settled (head_of names e tags)
  pub len : held.len ≡ e.len
