-- What the 47 bytes of an entry say of a game, and which bytes say it (Scid's format si4, version 400; the codes this project's own).
use Rattle.std.specs.Prelude.{◌≡◌, ◌≤◌, ◌<◌, ◌^◌, ◌+◌, ◌-◌, ℕ, zero, suc, Bool, ◌&&◌, ◌||◌, nat_eq, nat_lt, IsTrue, if◌then◌else◌, List, [], ◌∷◌, ◌++◌, length, map, slice_index, slice_index_or, Option, Some, None, Result, Ok, Err}
use Rattle.std.specs.List.{list_any, range_with_len}
use Rattle.std.specs.Option.{option_map_or}
use Rattle.game_tree.specs.Date.{IsDate, unknown_date, date_of, keeps_rule}
use Rattle.game_tree.specs.Head.{IsRating}
use Rattle.game_tree.specs.declared.date.Date.{Date}
use Rattle.game_tree.specs.declared.head.Outcome.{Outcome}
use Rattle.game_tree.specs.declared.head.Outcome.TheVariants as outcomes
use Rattle.game_tree.specs.declared.head.Rating.{Rating}
use Rattle.index_entry.specs.declared.entry.Entry.{Entry}
use Rattle.index_entry.specs.declared.fault.EntryFault.{EntryFault}
use Rattle.index_entry.specs.declared.fault.EntryFault.TheVariants as faults
use Rattle.index_entry.specs.Bits.{bit_in, field, bits}
use Rattle.index_entry.specs.Places as places

-- The result of a code: 0 unknown, 1 White, 2 Black, 3 draw.
abbrev pub outcome_of : ℕ → Outcome
outcome_of code = slice_index_or (outcomes.Unknown ∷ outcomes.White ∷ outcomes.Black ∷ outcomes.Draw ∷ []) code outcomes.Unknown

-- 25 to 28: the dates. The low 20 bits are the number of the game's date.
abbrev pub date_in : List ℕ → Date
date_in bytes = date_of (field bytes (bits 25 12 20))

-- An event date is there if its code is not 0, the game's year is known, and the event's year, the game's and the code less 4, is from 1 to 2047.
abbrev pub has_event_date : ℕ → ℕ → Bool
has_event_date year code = nat_lt 0 code && nat_lt 0 year && nat_lt 4 (year + code) && nat_lt (year + code) 2052

-- The event date of a game of this year, of three numbers.
abbrev pub event_date_of : ℕ → ℕ → ℕ → ℕ → Date
event_date_of year code month day =
    if has_event_date year code then record { year = (year + code) - 4; month = month; day = day } else unknown_date

abbrev pub event_date_in : List ℕ → Date
event_date_in bytes =
    event_date_of (date_in bytes).year (field bytes places.event_code) (field bytes places.event_month) (field bytes places.event_day)

-- A rating: a value of 0 is no rating, whatever the kind.
abbrev pub rating_of : ℕ → ℕ → Rating
rating_of kind value = record { value = value; kind = if nat_eq value 0 then 0 else kind }

-- The home value at a place of the list, and 0 past the list's end.
abbrev pub home_in : List ℕ → ℕ → ℕ
home_in bytes i = if nat_lt i (field bytes places.home_count) then field bytes (places.home_value i) else 0

-- What the bytes say.
unfoldable pub entry_in : List ℕ → Entry
entry_in bytes = record {
  -- 0 to 3: where the record begins in the games file. 4, 5: its length; byte 6 has its highest bit in bit 7.
  offset = field bytes (bits 0 0 32);
  len = field bytes (bits 6 0 1 ++ bits 4 0 16);
  -- 7, 8: the flags in bits 0 to 3, and the user marks above them; bits 0 to 5 of byte 6, the custom marks, are above these.
  own_start = nat_eq (field bytes (bits 7 15 1)) 1;
  promo = nat_eq (field bytes (bits 7 14 1)) 1;
  under = nat_eq (field bytes (bits 7 13 1)) 1;
  deleted = nat_eq (field bytes (bits 7 12 1)) 1;
  marks = field bytes (bits 6 2 6 ++ bits 7 0 12);
  -- 9 to 20: the ids of the names. Bytes 9 and 14 have their high bits, and then two bytes each the low 16.
  white = field bytes (bits 9 0 4 ++ bits 10 0 16);
  black = field bytes (bits 9 4 4 ++ bits 12 0 16);
  event = field bytes (bits 14 0 3 ++ bits 15 0 16);
  site = field bytes (bits 14 3 3 ++ bits 17 0 16);
  round = field bytes (bits 14 6 2 ++ bits 19 0 16);
  -- 21, 22: the result in bits 12 to 15, and below it the codes of the numbers of NAGs, comments and variations.
  vars = field bytes (bits 21 12 4);
  comments = field bytes (bits 21 8 4);
  nags = field bytes (bits 21 4 4);
  result = outcome_of (field bytes places.outcome);
  eco = field bytes places.eco;
  date = date_in bytes;
  event_date = event_date_in bytes;
  white_rating = rating_of (field bytes places.white_kind) (field bytes places.white_value);
  black_rating = rating_of (field bytes places.black_kind) (field bytes places.black_value);
  -- 34 to 36: the final material, from the highest bit on: queens, rooks, bishops, knights with 2 bits and pawns with 4, White's and then Black's.
  material =
      map (field bytes) (bits 34 0 2 ∷ bits 34 2 2 ∷ bits 34 4 2 ∷ bits 34 6 2 ∷ bits 34 8 4
      ∷ bits 34 12 2 ∷ bits 34 14 2 ∷ bits 34 16 2 ∷ bits 34 18 2 ∷ bits 34 20 4 ∷ []);
  -- 37: the low 8 bits of the half-moves; byte 38 has the top two in bits 6 and 7.
  plies = field bytes (bits 38 0 2 ++ bits 37 0 8);
  home_count = field bytes places.home_count;
  home = map (home_in bytes) (range_with_len 0 16);
}

-- A rating of a kind that there is not.
abbrev pub is_bad_rating : ℕ → ℕ → Bool
is_bad_rating kind value = nat_lt 6 kind && nat_lt 0 value

-- The first fault: a result above 3; an ECO code above 65,500; a month above 12 in a date that is used; a rating of no kind.
unfoldable pub fault_in : List ℕ → Option EntryFault
fault_in bytes =
    if nat_lt 3 (field bytes places.outcome) then Some faults.Result
    else if nat_lt 65500 (field bytes places.eco) then Some faults.Eco
    else if nat_lt 12 (date_in bytes).month || nat_lt 12 (event_date_in bytes).month then Some faults.Date
    else if is_bad_rating (field bytes places.white_kind) (field bytes places.white_value)
    || is_bad_rating (field bytes places.black_kind) (field bytes places.black_value)
    then Some faults.Rating
    else None

-- The first fault, or else what the bytes say.
unfoldable pub entry_read : List ℕ → Result Entry EntryFault
entry_read bytes = option_map_or Err (fault_in bytes) (Ok (entry_in bytes))

-- The places of so many home values, from one on.
abbrev pub home_from : ℕ → ℕ → List ℕ
home_from i zero = []
home_from i (suc count) = places.home_value i ++ home_from (suc i) count

-- The bits of an event date.
abbrev pub event_places : List ℕ
event_places = places.event_code ++ (places.event_month ++ places.event_day)

-- The places that say nothing: the spare bit, the code of a stored line, the home values past the end of their list,
-- and the kind of no rating. Without an event date, its bits are among them.
unfoldable pub free_places : List ℕ → List ℕ
free_places bytes =
    places.spare
    ++ (places.stored_line
    ++ (home_from (field bytes places.home_count) (16 - field bytes places.home_count)
    ++ ((if nat_eq (field bytes places.white_value) 0 then places.white_kind else [])
    ++ ((if nat_eq (field bytes places.black_value) 0 then places.black_kind else [])
    ++ (if has_event_date (date_in bytes).year (field bytes places.event_code) then [] else event_places)))))

-- The written form of an entry: the 47 bytes that say it, with zeros in all places that say nothing.
pub record IsWritten (bytes : List ℕ) (entry : Entry) : Type 0 where
  pub size : length bytes ≡ 47
  pub says : entry_read bytes ≡ Ok entry
  pub clear : field bytes (free_places bytes) ≡ 0

-- Home values below 16, and 0 past the end of their list.
pub record AreHomeValues (count : ℕ) (values : List ℕ) : Type 0 where
  pub size : length values ≡ 16
  pub small : (i : ℕ) → slice_index values i < 16
  pub past : (i : ℕ) → count ≤ i → slice_index values i ≡ 0

-- Final counts of White's queens, rooks, bishops, knights and pawns, and then Black's.
pub record AreCounts (counts : List ℕ) : Type 0 where
  pub size : length counts ≡ 10
  pub small : (i : ℕ) → slice_index counts i ≤ slice_index (3 ∷ 3 ∷ 3 ∷ 3 ∷ 15 ∷ 3 ∷ 3 ∷ 3 ∷ 3 ∷ 15 ∷ []) i

-- What an entry may hold: each field in its range, and an event date that is none or keeps its rule with the game's date.
pub record IsEntry (e : Entry) : Type 0 where
  pub len : e.len < 2 ^ 17
  pub marks : e.marks < 2 ^ 18
  pub white : e.white < 2 ^ 20
  pub black : e.black < 2 ^ 20
  pub event : e.event < 2 ^ 19
  pub site : e.site < 2 ^ 19
  pub round : e.round < 2 ^ 18
  pub vars : e.vars < 16
  pub comments : e.comments < 16
  pub nags : e.nags < 16
  pub eco : e.eco ≤ 65500
  pub date : IsDate e.date
  pub event_date : IsDate e.event_date
  pub event_rule : IsTrue (keeps_rule e.event_date e.date)
  pub white_rating : IsRating e.white_rating
  pub black_rating : IsRating e.black_rating
  pub material : AreCounts e.material
  pub plies : e.plies < 1024
  pub home_count : e.home_count < 64
  pub home : AreHomeValues e.home_count e.home

-- A place is among some.
abbrev pub is_among : ℕ → List ℕ → Bool
is_among place places = list_any (nat_eq place) places

-- These bytes are those with zeros in the places of theirs that say nothing.
abbrev pub AreCleared : List ℕ → List ℕ → Type 0
AreCleared bytes cleared = (place : ℕ) → place < 376 → bit_in cleared place ≡ (if is_among place (free_places bytes) then 0 else bit_in bytes place)
