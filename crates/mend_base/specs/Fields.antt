-- What an entry says of a game if a field of it stands for nothing: the field is as if it was not given (this project's own, over Scid's format
-- si4).
use Rattle.std.specs.Prelude.{ℕ, ◌||◌, nat_lt, if◌then◌else◌, List}
use Rattle.game_tree.specs.Date.{unknown_date}
use Rattle.game_tree.specs.declared.date.Date.{Date}
use Rattle.game_tree.specs.declared.head.Rating.{Rating}
use Rattle.index_entry.specs.Entry.{entry_in}
use Rattle.index_entry.specs.declared.entry.Entry.{Entry}

-- An ECO code above 65,500 is none.
abbrev pub eco_known : ℕ → ℕ
eco_known eco = if nat_lt 65500 eco then 0 else eco

-- A date of a month above twelve is unknown.
abbrev pub date_known : Date → Date
date_known date = if nat_lt 12 date.month then unknown_date else date

-- So is an event's date with such a month, and one beside such a date of the game, from whose year it is counted.
abbrev pub event_date_known : Date → Date → Date
event_date_known game event = if nat_lt 12 game.month || nat_lt 12 event.month then unknown_date else event

-- A rating of no kind is none.
abbrev pub rating_known : Rating → Rating
rating_known rating = if nat_lt 6 rating.kind then record { value = 0; kind = 0 } else rating

-- An entry without what stands for nothing in it. Its result has one of the four kinds in any case.
unfoldable pub without_faults : Entry → Entry
without_faults e = record e {
  eco = eco_known e.eco;
  date = date_known e.date;
  event_date = event_date_known e.date e.event_date;
  white_rating = rating_known e.white_rating;
  black_rating = rating_known e.black_rating;
}

-- What 47 bytes say of a game, whatever they are. A code of no result is that of an unknown one.
unfoldable pub known_in : List ℕ → Entry
known_in bytes = without_faults (entry_in bytes)
