-- Where the date of an event stands: as the event date if it follows the rule of event dates, else as a tag
-- (this project's own).
use Rattle.std.specs.Prelude.{◌≡◌, ℕ, if◌then◌else◌, List, [], ◌∷◌, ◌++◌, Option, Some, None, codes}
use Rattle.std.specs.Option.{option_or}
use Rattle.game_tree.specs.TagList.{is_named, tags_without}
use Rattle.game_tree.specs.Date.{unknown_date, is_unknown, is_near, date_text, date_read}
use Rattle.game_tree.specs.declared.date.Date.{Date}
use Rattle.game_tree.specs.declared.head.Tag.{Tag}
use Rattle.game_tree.specs.declared.head.Head.{Head}

abbrev pub event_date_name : List ℕ
event_date_name = codes "EventDate"

abbrev pub event_date_tag : Date → Tag
event_date_tag date = record { name = event_date_name; value = date_text date }

-- The date, if it follows the rule with the game's date.
abbrev pub near_only : Date → Option Date → Option Date
near_only game None = None
near_only game (Some date) = if is_near date game then Some date else None

-- The date of a tag EventDate that reads as a date within the rule.
unfoldable pub near_date : Date → Tag → Option Date
near_date game tag = if is_named event_date_name tag then near_only game (date_read tag.value) else None

-- The first such date of the tags.
abbrev pub first_near_date : Date → List Tag → Option Date
first_near_date game [] = None
first_near_date game (tag ∷ tags) = option_or (near_date game tag) (first_near_date game tags)

-- A head without an event date, if the tags have this first date within the rule.
abbrev pub taken_up : Head → Option Date → Head
taken_up head None = head
taken_up head (Some date) = record head { event_date = date; tags = tags_without event_date_name head.tags }

-- The settled head. An event date within the rule removes all tags EventDate. One outside it becomes unknown, and a tag
-- with its text, added last, takes the place of all tags EventDate. Without an event date, the first tag EventDate that
-- reads as a date within the rule gives it, and all tags EventDate go. Without such a tag, the tags stay.
unfoldable pub settled : Head → Head
settled head =
    if is_near head.event_date head.date then record head { tags = tags_without event_date_name head.tags }
    else if is_unknown head.event_date then taken_up head (first_near_date head.date head.tags)
    else record head { event_date = unknown_date; tags = tags_without event_date_name head.tags ++ event_date_tag head.event_date ∷ [] }

-- The head with these dates.
abbrev pub with_dates : Head → Date → Date → Head
with_dates head game event = record head { date = game; event_date = event }

-- A head that settling leaves as it is.
abbrev pub IsSettled : Head → Type 0
IsSettled head = settled head ≡ head
