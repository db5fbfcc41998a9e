-- The head of a game, from its tags in their order and the result of its end mark (PGN standard, 8.1 and 9).
use Rattle.std.specs.Prelude.{ℕ, ◌+◌, ◌*◌, ◌==◌, Bool, if◌then◌else◌, List, [], ◌∷◌, Option, Some, None, option_and_then, unwrap_or, codes, flat_map}
use Rattle.std.specs.List.{list_any}
use Rattle.std.specs.Option.{option_or}
use Rattle.cell_core.specs.declared.man.Colour.{Colour}
use Rattle.cell_core.specs.declared.man.Colour.TheVariants.{White, Black}
use Rattle.cell_core.specs.Man.{same_colour}
use Rattle.game_tree.specs.declared.head.Head.{Head}
use Rattle.game_tree.specs.declared.head.Outcome.{Outcome}
use Rattle.game_tree.specs.declared.head.Outcome.TheVariants as outcome
use Rattle.game_tree.specs.declared.head.Rating.{Rating}
use Rattle.game_tree.specs.declared.head.Tag.{Tag}
use Rattle.game_tree.specs.Date.{unknown_date, date_read}
use Rattle.game_tree.specs.Decimal.{decimal_read}
use Rattle.game_tree.specs.Eco.{eco_read}
use Rattle.game_tree.specs.Marks.{mark_letters}
use Rattle.game_tree.specs.Outcome.{outcome_read}
use Rattle.game_tree.specs.Settle.{settled}
use Rattle.game_tree.specs.TagList.{is_named}
use Rattle.game_tree.specs.TagName.{rating_of, free_of, IsTagName}
use Rattle.game_tree.specs.Head.{IsName}

-- A tag that was read: its name and its value are within their bounds.
pub record IsReadTag (tag : Tag) : Type 0 where
  pub name : IsTagName tag.name
  pub value : IsName tag.value

-- The first of the tags that tells something.
abbrev pub first_told : {A : Type 0} → (Tag → Option A) → List Tag → Option A
first_told told [] = None
first_told told (tag ∷ tags) = option_or (told tag) (first_told told tags)

-- The value of the first tag of this name.
abbrev pub value_of : List ℕ → List Tag → Option (List ℕ)
value_of name tags = first_told (λ tag. if is_named name tag then Some tag.value else None) tags

-- A name that is missing is `?` (PGN standard, 8.1.1).
abbrev pub name_from : List ℕ → List Tag → List ℕ
name_from name tags = unwrap_or (value_of name tags) (codes "?")

-- The result is that of the end mark; if it is `*`, that of the tag, if it reads.
abbrev pub result_from : Outcome → List Tag → Outcome
result_from outcome.Unknown tags = unwrap_or (option_and_then outcome_read (value_of (codes "Result") tags)) outcome.Unknown
result_from result tags = result

-- A rating from 1 to 4095 of the side, of the kind that the tag's name tells.
abbrev pub rated : ℕ → ℕ → Option Rating
rated kind value = if value == 0 then None else Some (record { value = value; kind = kind })

abbrev pub rating_as : Colour → List ℕ → Colour × ℕ → Option Rating
rating_as side value told = if same_colour told.0 side then option_and_then (rated told.1) (decimal_read 4095 value) else None

unfoldable pub rating_told : Colour → Tag → Option Rating
rating_told side tag = option_and_then (rating_as side tag.value) (rating_of tag.name)

abbrev pub rating_from : Colour → List Tag → Rating
rating_from side tags = unwrap_or (first_told (rating_told side) tags) (record { value = 0; kind = 0 })

-- The letters of all tags ScidFlags, and the marks that they set (after Scid). They are the twelve user marks and the
-- six custom marks from the lowest bit on, and D, the mark of a deleted game. Other letters set none.
abbrev pub flags_of : List Tag → List ℕ
flags_of tags = flat_map (λ tag. if is_named (codes "ScidFlags") tag then tag.value else []) tags

abbrev pub has_letter : List ℕ → ℕ → Bool
has_letter flags letter = list_any (λ flag. flag == letter) flags

abbrev pub marks_of : List ℕ → List ℕ → ℕ
marks_of flags [] = 0
marks_of flags (letter ∷ letters) = (if has_letter flags letter then 1 else 0) + 2 * marks_of flags letters

-- The number of which the bits of all letters are set.
abbrev pub all_marks : List ℕ → ℕ
all_marks [] = 0
all_marks (letter ∷ letters) = 1 + 2 * all_marks letters

-- The head, which is settled, so that an event date stands in its field and not in its tag. A missing end mark is `*`.
-- A date that is missing or does not read is unknown, and the opening code is that of the first tag of which it reads,
-- or 0.
unfoldable pub head_from : List Tag → Option Outcome → Head
head_from tags mark = settled (record {
  white = name_from (codes "White") tags;
  black = name_from (codes "Black") tags;
  event = name_from (codes "Event") tags;
  site = name_from (codes "Site") tags;
  round = name_from (codes "Round") tags;
  date = unwrap_or (option_and_then date_read (value_of (codes "Date") tags)) unknown_date;
  event_date = unknown_date;
  result = result_from (unwrap_or mark outcome.Unknown) tags;
  white_rating = rating_from White tags;
  black_rating = rating_from Black tags;
  eco = unwrap_or (first_told (λ tag. if is_named (codes "ECO") tag then eco_read tag.value else None) tags) 0;
  marks = marks_of (flags_of tags) mark_letters;
  deleted = has_letter (flags_of tags) 68;
  tags = free_of tags;
})
