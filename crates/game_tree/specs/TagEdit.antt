-- Edits of a head by the name and the value of a tag (this project's own; the names are those of the PGN standard, 8.1.1
-- and 9).
use Rattle.std.specs.Prelude.{ℕ, ◌≤◌, ◌==◌, ◌||◌, not, if◌then◌else◌, List, length, Option, Some, None, option_map, ok_or, Result, Ok, Err, codes}
use Rattle.std.specs.Str.{bytes_eq}
use Rattle.cell_core.specs.declared.man.Colour.{Colour}
use Rattle.cell_core.specs.declared.man.Colour.TheVariants.{White, Black}
use Rattle.game_tree.specs.Date.{IsDate, date_read}
use Rattle.game_tree.specs.Decimal.{decimal_read}
use Rattle.game_tree.specs.Eco.{eco_read}
use Rattle.game_tree.specs.Head.{IsName, is_name, IsRating, IsTag}
use Rattle.game_tree.specs.Outcome.{outcome_read}
use Rattle.game_tree.specs.Settle.{event_date_name, settled}
use Rattle.game_tree.specs.TagList.{tags_without, with_tag}
use Rattle.game_tree.specs.TagName.{is_refused, is_tag_name, rating_of}
use Rattle.game_tree.specs.declared.date.Date.{Date}
use Rattle.game_tree.specs.declared.head.Head.{Head}
use Rattle.game_tree.specs.declared.head.Rating.{Rating}
use Rattle.game_tree.specs.declared.tag_edit.TagEdit.{TagEdit}
use Rattle.game_tree.specs.declared.tag_edit.TagEdit.TheVariants as edit
use Rattle.game_tree.specs.declared.tag_edit.TagEditError.{TagEditError}
use Rattle.game_tree.specs.declared.tag_edit.TagEditError.TheVariants as fault

-- The edit with a value that was read, or the fault if none was.
abbrev pub valued : {A : Type 0} → (A → TagEdit) → Option A → Result TagEdit TagEditError
valued make value = ok_or (option_map make value) fault.Value

-- The number of an opening code; an empty text takes the code away.
abbrev pub eco_value : List ℕ → Option ℕ
eco_value text = if length text == 0 then Some 0 else eco_read text

-- A rating of a kind; the value 0 is no rating and has the kind 0.
abbrev pub rating_with : ℕ → ℕ → Rating
rating_with kind number = record { value = number; kind = if number == 0 then 0 else kind }

-- The edit of a side's rating.
abbrev pub rating_edit : Colour → ℕ → ℕ → TagEdit
rating_edit White kind number = edit.WhiteRating (rating_with kind number)
rating_edit Black kind number = edit.BlackRating (rating_with kind number)

-- The edit of a rating if the name is that of one, and else of an extra tag.
abbrev pub rating_or_extra : Option (Colour × ℕ) → List ℕ → List ℕ → Result TagEdit TagEditError
rating_or_extra (Some rating) name value = valued (rating_edit rating.0 rating.1) (decimal_read 4095 value)
rating_or_extra None name value = Ok (edit.Extra (record { name = name; value = value }))

-- The edit of a name that may be set, by a value that may be a tag's.
unfoldable pub named_edit : List ℕ → List ℕ → Result TagEdit TagEditError
named_edit name value =
    if bytes_eq name (codes "Event") then Ok (edit.Event value)
    else if bytes_eq name (codes "Site") then Ok (edit.Site value)
    else if bytes_eq name (codes "Round") then Ok (edit.Round value)
    else if bytes_eq name (codes "White") then Ok (edit.White value)
    else if bytes_eq name (codes "Black") then Ok (edit.Black value)
    else if bytes_eq name (codes "Date") then valued edit.Date (date_read value)
    else if bytes_eq name (codes "EventDate") then valued edit.EventDate (date_read value)
    else if bytes_eq name (codes "Result") then valued edit.Result (outcome_read value)
    else if bytes_eq name (codes "ECO") then valued edit.Eco (eco_value value)
    else rating_or_extra (rating_of name) name value

-- The edit that a name and a value are, or the fault of the name, or else that of the value.
unfoldable pub edit_of : List ℕ → List ℕ → Result TagEdit TagEditError
edit_of name value =
    if is_refused name || not (is_tag_name name) then Err fault.Name
    else if not (is_name value) then Err fault.Value
    else named_edit name value

-- What an edit may hold: the bounds of the part of a head that it sets.
abbrev pub IsEdit : TagEdit → Type 0
IsEdit (edit.Event text) = IsName text
IsEdit (edit.Site text) = IsName text
IsEdit (edit.Date date) = IsDate date
IsEdit (edit.Round text) = IsName text
IsEdit (edit.White text) = IsName text
IsEdit (edit.Black text) = IsName text
IsEdit (edit.Result outcome) = Unit {0}
IsEdit (edit.WhiteRating rating) = IsRating rating
IsEdit (edit.BlackRating rating) = IsRating rating
IsEdit (edit.Eco number) = number ≤ 65500
IsEdit (edit.EventDate date) = IsDate date
IsEdit (edit.Extra tag) = IsTag tag

-- The head with the part set that the edit names; an event date takes the place of all tags EventDate too.
abbrev pub changed : Head → TagEdit → Head
changed head (edit.Event text) = record head { event = text }
changed head (edit.Site text) = record head { site = text }
changed head (edit.Date date) = record head { date = date }
changed head (edit.Round text) = record head { round = text }
changed head (edit.White text) = record head { white = text }
changed head (edit.Black text) = record head { black = text }
changed head (edit.Result outcome) = record head { result = outcome }
changed head (edit.WhiteRating rating) = record head { white_rating = rating }
changed head (edit.BlackRating rating) = record head { black_rating = rating }
changed head (edit.Eco number) = record head { eco = number }
changed head (edit.EventDate date) = record head { event_date = date; tags = tags_without event_date_name head.tags }
changed head (edit.Extra tag) = record head { tags = with_tag tag head.tags }

-- The head after an edit: it is settled.
abbrev pub edited : Head → TagEdit → Head
edited head e = settled (changed head e)
