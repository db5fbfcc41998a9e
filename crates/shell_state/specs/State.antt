-- The state that a script changes: a plain value. This project's own.
use Rattle.std.specs.Prelude.{◌≤◌, true, ℕ, List, Option, Bool, map, false, if◌then◌else◌, length, Some, None}
use Rattle.base_core.specs.Base.{Base}
use Rattle.base_core.specs.Edits.{added}
use Rattle.game_tree.specs.Game.{GameTree}
use Rattle.game_tree.specs.declared.head.Head.{Head}
use Rattle.filter_seat.specs.SavedFilters.{most_saved}
use Rattle.filter_seat.specs.Seats.{FitsGames, Seat, first_seat, seat_with_one}
use Rattle.shell_state.specs.Slots.{Slot}

-- A base that the files carry, and whether they open again as it without a fault, however strict the opening is.
pub record Carried : Type 0 where
  pub base : Base
  pub sound : Bool

-- What all users of a base share: the base, the one that the files carry, whether changes are unsaved, and the depth of
-- the position index, if there is one. The files carry the base that was opened, or saved or compacted last. They carry
-- none if it was created and neither came. Beside them stands what they tell of a new games file: what they told at the
-- beginning, and since a compaction that it is empty.
pub record Shared : Type 0 where
  pub base : Base
  pub carried : Option Carried
  pub unsaved : Bool
  pub index : Option ℕ
  pub fresh : Option (List ℕ)

-- The files carry this base, and open so, since it was written as a whole.
abbrev pub saved_whole : Shared → Base → Shared
saved_whole shared base = record shared { base = base; carried = Some (record { base = base; sound = true }); unsaved = false }

-- That, and what one of them has alone: the seat, and what the slots show.
pub record State : Type 0 where
  pub shared : Shared
  pub seat : Seat
  pub slots : List Slot

-- The state with this base, which is not saved, with this seat, and with this filter.
abbrev pub with_base : State → Base → State
with_base s base = record s { shared = record s.shared { base = base; unsaved = true } }

abbrev pub with_seat : State → Seat → State
with_seat s seat = record s { seat = seat }

abbrev pub with_filter : State → List (Option ℕ) → State
with_filter s plies = with_seat s (record s.seat { filter = plies })

-- The state with a game that is added: it is in at ply 0, and in no filter that is kept.
abbrev pub with_game : State → Head → GameTree → State
with_game s head game = with_seat (with_base s (added head game s.shared.base)) (seat_with_one s.seat)

-- Every filter has an entry for each game, and at most eight are kept.
pub record HasFilters (s : State) : Type 0 where
  pub fit : FitsGames s.seat (length s.shared.base.games)
  pub few : length s.seat.saved ≤ most_saved

-- The games of the base.
abbrev pub games_of : State → List GameTree
games_of s = map (λ held. held.game) s.shared.base.games

-- The same base with a position index to this depth, or without one.
abbrev pub with_index : State → Option ℕ → State
with_index s depth = record s { shared = record s.shared { index = depth } }

-- The state in which a script begins over a base that was opened or, in an empty folder, created, beside what the files
-- tell of a new games file. Every game is in at ply 0, and nothing is kept or unsaved, or indexed. Its slots are these.
abbrev pub begin : Bool → Option (List ℕ) → List Slot → Base → State
begin created fresh slots base = record {
  shared = record { base = base; carried = if created then None else Some (record { base = base; sound = false }); unsaved = false; index = None; fresh = fresh };
  seat = first_seat (length base.games);
  slots = slots;
}
