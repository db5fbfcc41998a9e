-- Dates of games and events and their texts (PGN standard, 8.1.1.3: year, month and day, question marks if unknown).
use Rattle.std.specs.Prelude.{ℕ, ◌+◌, ◌*◌, ◌/◌, ◌%◌, ◌≤◌, Bool, ◌&&◌, ◌||◌, ◌==◌, nat_le, if◌then◌else◌, List, [], ◌∷◌, ◌++◌, map, length, slice_index, slice_range, Option, Some, None, codes}
use Rattle.std.specs.List.{list_all}
use Rattle.game_tree.specs.Decimal.{decimal_read}
use Rattle.game_tree.specs.declared.date.Date.{Date}

-- The date of which nothing is known.
abbrev pub unknown_date : Date
unknown_date = record { year = 0; month = 0; day = 0 }

abbrev pub is_unknown : Date → Bool
is_unknown d = (d.year == 0) && (d.month == 0) && (d.day == 0)

-- The greatest year, month and day of a date that is kept (this project's own; zero is unknown).
pub record IsDate (d : Date) : Type 0 where
  pub year : d.year ≤ 2047
  pub month : d.month ≤ 12
  pub day : d.day ≤ 31

-- The last digit of a number, or a question mark if the part of the date is unknown.
abbrev pub shown : ℕ → ℕ → ℕ
shown whole number = if whole == 0 then 63 else 48 + number % 10

-- The text of a date, as `1994.05.??`.
unfoldable pub date_text : Date → List ℕ
date_text d =
    map (shown d.year) (d.year / 1000 ∷ d.year / 100 ∷ d.year / 10 ∷ d.year ∷ [])
    ++ 46 ∷ (map (shown d.month) (d.month / 10 ∷ d.month ∷ []) ++ 46 ∷ map (shown d.day) (d.day / 10 ∷ d.day ∷ []))

-- A part of a date's text that is at most a limit: question marks mean unknown, which is 0, and digits their number.
unfoldable pub part : ℕ → List ℕ → Option ℕ
part limit text =
    if list_all (λ c. c == 63) text then Some 0 else decimal_read limit text

-- The date of three parts, if all are there.
abbrev pub of_parts : Option ℕ → Option ℕ → Option ℕ → Option Date
of_parts (Some y) (Some m) (Some d) = Some (record { year = y; month = m; day = d })
of_parts _ _ _ = None

-- The date of the texts of its three parts.
abbrev pub dated : List ℕ → List ℕ → List ℕ → Option Date
dated y m d = of_parts (part 2047 y) (part 12 m) (part 31 d)

-- The date that a text reads as: the whole form, or its year alone, or its year and month.
unfoldable pub date_read : List ℕ → Option Date
date_read text =
    if length text == 4 then dated text (codes "??") (codes "??")
    else if (length text == 7) && (slice_index text 4 == 46)
    then dated (slice_range text 0 4) (slice_range text 5 7) (codes "??")
    else if (length text == 10) && (slice_index text 4 == 46) && (slice_index text 7 == 46)
    then dated (slice_range text 0 4) (slice_range text 5 7) (slice_range text 8 10)
    else None

-- A date as one number (after Scid's format): the day in the lowest five bits, the month in four, the year above.
abbrev pub date_number : Date → ℕ
date_number d = d.year * 512 + d.month * 32 + d.day

-- The date of such a number.
abbrev pub date_of : ℕ → Date
date_of number = record { year = number / 512; month = number / 32 % 16; day = number % 32 }

-- The rule of event dates (this project's own): a known year that differs by at most 3 from the game's known year.
abbrev pub is_near : Date → Date → Bool
is_near event game =
    nat_le 1 event.year && nat_le event.year 2047 && nat_le 1 game.year
    && nat_le event.year (game.year + 3) && nat_le game.year (event.year + 3)

-- An event date keeps the rule if it is unknown or within the rule.
abbrev pub keeps_rule : Date → Date → Bool
keeps_rule event game = is_unknown event || is_near event game
