-- What a change of a base brings to a seat (this project's own).
use Rattle.std.specs.Prelude.{◌≡◌, ℕ, ◌+◌, ◌<◌, List, [], ◌∷◌, ◌++◌, Option, None, if◌then◌else◌, is_some, length, map, slice_index_or}
use Rattle.game_filter.specs.Renumbering.{renumbered}
use Rattle.filter_seat.specs.Following.{Moving, filter_after}
use Rattle.filter_seat.specs.SavedFilters.{kept_with}
use Rattle.tree_rows.specs.declared.hit.GameHit.{GameHit}
use Rattle.tree_live.specs.declared.entry.Entry.{Entry}
use Rattle.tree_live.specs.Watching.{Watched, all_changes, staying, with_game}
use Rattle.tree_live.specs.Slots.{AreChanged, in_slot}
use Rattle.client_desk.specs.declared.change.Change.{Change}
use Rattle.client_desk.specs.declared.change.Change.TheVariants.{Added, Edited, Renumbered}
use Rattle.client_desk.specs.Seats.{Seated}

-- The change can come to a seat: it names games of it.
abbrev pub Fits : Change → Seated → Type 0
Fits (Added hits) seat = length seat.filter < 16777214
Fits (Edited game replaced hits) seat = game < length seat.filter
Fits (Renumbered numbering) seat = length numbering.to ≡ length seat.filter

-- What a change moves in filters over so many games: a game that is replaced starts anew.
abbrev pub moving_of : Change → ℕ → Moving
moving_of (Added hits) games = Moving.added (games + 1)
moving_of (Edited game replaced hits) games = if replaced then Moving.started game else Moving.nothing
moving_of (Renumbered numbering) games = Moving.numbered numbering

-- A game with this entry in the filter, and with its hit in the slot that is the view of this number.
abbrev pub game_with : Option ℕ → List (Option GameHit) → ℕ → Entry
game_with entry hits place = record { hit = in_slot hits place; is_in = is_some entry }

-- The games of a watch after a change, if these were the filter of its seat and the number of its view.
abbrev pub games_after : Option ℕ → Change → List (Option ℕ) → ℕ → List Entry → List Entry
games_after entry (Added hits) plies place games = with_game (length plies) (game_with entry hits place) games
games_after entry (Edited game replaced hits) plies place games = with_game game (game_with (slice_index_or plies game None) hits place) games
games_after entry (Renumbered numbering) plies place games = renumbered numbering.to games

-- How many changes of rows that is at most: one for each hit that goes out of those that are in, and one for each that comes in.
abbrev pub changes_of : Option ℕ → Change → List (Option ℕ) → ℕ → List Entry → ℕ
changes_of entry (Added hits) plies place games = all_changes games (with_game (length plies) (game_with entry hits place) games)
changes_of entry (Edited game replaced hits) plies place games = all_changes games (with_game game (game_with (slice_index_or plies game None) hits place) games)
changes_of entry (Renumbered numbering) plies place games = all_changes games (staying numbering.to games)

-- The same of slot k of a seat.
abbrev pub watch_after : Option ℕ → Change → Seated → ℕ → Watched → Watched
watch_after entry change seat k watch = record watch { games = games_after entry change seat.filter (seat.slots.first + k) watch.games }

abbrev pub most_told : Option ℕ → Change → Seated → ℕ → Watched → ℕ
most_told entry change seat k watch = changes_of entry change seat.filter (seat.slots.first + k) watch.games

-- A seat follows a change, an added game having this entry in its filter. It keeps its slots.
pub record Follows (entry : Option ℕ) (change : Change) (old new : Seated) : Type 0 where
  pub filter : new.filter ≡ filter_after entry (moving_of change (length old.filter)) old.filter
  pub saved : new.saved ≡ map (kept_with (filter_after None (moving_of change (length old.filter)))) old.saved
  pub watches : AreChanged (watch_after entry change old) old.slots new.slots
  pub first : new.slots.first ≡ old.slots.first
  pub count : new.slots.count ≡ old.slots.count
