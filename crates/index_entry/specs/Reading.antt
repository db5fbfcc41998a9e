-- An entry by its bytes and words, as the functions of this crate read it.
use Rattle.std.specs.Prelude.{◌+◌, ◌*◌, ◌/◌, ◌%◌, ◌^◌, ℕ, ◌||◌, nat_eq, nat_lt, if◌then◌else◌, List, [], ◌∷◌, map, slice_index, Result, Ok, Err}
use Rattle.std.specs.List.{range_with_len}
use Rattle.cell_core.specs.Steps.{◌>>=◌}
use Rattle.byteorder.specs.Endian.{big_from}
use Rattle.game_tree.specs.Date.{date_of}
use Rattle.game_tree.specs.declared.date.Date.{Date}
use Rattle.game_tree.specs.declared.head.Outcome.{Outcome}
use Rattle.game_tree.specs.declared.head.Rating.{Rating}
use Rattle.index_entry.specs.declared.entry.Entry.{Entry}
use Rattle.index_entry.specs.declared.fault.EntryFault.{EntryFault}
use Rattle.index_entry.specs.declared.fault.EntryFault.TheVariants as faults
use Rattle.index_entry.specs.Entry.{outcome_of, event_date_of, rating_of, is_bad_rating}

-- The result of a code.
unfoldable pub outcome_at : ℕ → Result Outcome EntryFault
outcome_at code = if nat_lt 3 code then Err faults.Result else Ok (outcome_of code)

-- An ECO code.
unfoldable pub eco_at : ℕ → Result ℕ EntryFault
eco_at code = if nat_lt 65500 code then Err faults.Eco else Ok code

-- The event date of a word, beside the game's.
unfoldable pub event_at : Date → ℕ → Date
event_at date word = event_date_of date.year (word / 2 ^ 29) (word / 2 ^ 25 % 16) (word / 2 ^ 20 % 32)

-- The two dates of a word.
unfoldable pub dates_at : ℕ → Result (Date × Date) EntryFault
dates_at word =
    if nat_lt 12 (date_of (word % 2 ^ 20)).month || nat_lt 12 (event_at (date_of (word % 2 ^ 20)) word).month
    then Err faults.Date
    else Ok (date_of (word % 2 ^ 20), event_at (date_of (word % 2 ^ 20)) word)

-- The rating of a word.
unfoldable pub rating_at : ℕ → Result Rating EntryFault
rating_at word = if is_bad_rating (word / 4096) (word % 4096) then Err faults.Rating else Ok (rating_of (word / 4096) (word % 4096))

-- The final counts of three bytes.
unfoldable pub material_at : ℕ → ℕ → ℕ → List ℕ
material_at a b c = a / 64 ∷ a / 16 % 4 ∷ a / 4 % 4 ∷ a % 4 ∷ b / 16 ∷ b / 4 % 4 ∷ b % 4 ∷ c / 64 ∷ c / 16 % 4 ∷ c % 16 ∷ []

-- The half of a byte: the high one first.
abbrev pub half : ℕ → ℕ → ℕ
half byte i = if nat_eq (i % 2) 0 then byte / 16 else byte % 16

-- A home value, or 0 past the end of their list.
unfoldable pub home_at : List ℕ → ℕ → ℕ
home_at bytes i = if nat_lt i (slice_index bytes 38 % 64) then half (slice_index bytes (39 + i / 2)) i else 0

-- What the bytes say if they have no fault.
unfoldable pub fields_at : List ℕ → Outcome → ℕ → Date × Date → Rating → Rating → Entry
fields_at b result eco dates white_rating black_rating = record {
  offset = big_from 0 4 b;
  len = slice_index b 6 / 128 * 65536 + big_from 4 2 b;
  own_start = nat_eq (big_from 7 2 b % 2) 1;
  promo = nat_eq (big_from 7 2 b / 2 % 2) 1;
  under = nat_eq (big_from 7 2 b / 4 % 2) 1;
  deleted = nat_eq (big_from 7 2 b / 8 % 2) 1;
  marks = slice_index b 6 % 64 * 4096 + big_from 7 2 b / 16;
  white = slice_index b 9 / 16 * 65536 + big_from 10 2 b;
  black = slice_index b 9 % 16 * 65536 + big_from 12 2 b;
  event = slice_index b 14 / 32 * 65536 + big_from 15 2 b;
  site = slice_index b 14 / 4 % 8 * 65536 + big_from 17 2 b;
  round = slice_index b 14 % 4 * 65536 + big_from 19 2 b;
  vars = slice_index b 22 % 16;
  comments = slice_index b 22 / 16;
  nags = slice_index b 21 % 16;
  result = result;
  eco = eco;
  date = dates.0;
  event_date = dates.1;
  white_rating = white_rating;
  black_rating = black_rating;
  material = material_at (slice_index b 34) (slice_index b 35) (slice_index b 36);
  plies = slice_index b 38 / 64 * 256 + slice_index b 37;
  home_count = slice_index b 38 % 64;
  home = map (home_at b) (range_with_len 0 16);
}

-- The first fault, or what the bytes say.
unfoldable pub entry_at : List ℕ → Result Entry EntryFault
entry_at b =
    outcome_at (slice_index b 21 / 16) >>= λ result.
    eco_at (big_from 23 2 b) >>= λ eco.
    dates_at (big_from 25 4 b) >>= λ dates.
    rating_at (big_from 29 2 b) >>= λ white_rating.
    rating_at (big_from 31 2 b) >>= λ black_rating.
    Ok (fields_at b result eco dates white_rating black_rating)
