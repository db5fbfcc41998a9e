-- What one user of an open base has alone. This project's own.
use Rattle.std.specs.Prelude.{◌≡◌, ℕ, List, [], ◌∷◌, ◌++◌, Option, None, Some, All, length, map}
use Rattle.game_filter.specs.Filter.{all_in}
use Rattle.filter_seat.specs.SavedFilters.{kept_with}
use Rattle.filter_seat.specs.declared.saved.SavedFilter.{SavedFilter}

-- A filter with an entry for each game, and the filters that are kept by name.
pub record Seat : Type 0 where
  pub filter : List (Option ℕ)
  pub saved : List SavedFilter

-- Each of its filters has an entry for each of so many games.
pub record FitsGames (seat : Seat) (games : ℕ) : Type 0 where
  pub filter : length seat.filter ≡ games
  pub saved : All (λ kept. length kept.plies ≡ games) seat.saved

-- The seat with which a script begins over so many games: every game is in at ply 0, and no filter is kept.
abbrev pub first_seat : ℕ → Seat
first_seat games = record { filter = all_in games; saved = [] }

-- With an added game, which is in at ply 0, and in no filter that is kept.
abbrev pub seat_with_one : Seat → Seat
seat_with_one seat = record { filter = seat.filter ++ Some 0 ∷ []; saved = map (kept_with (λ plies. plies ++ None ∷ [])) seat.saved }

-- With each of its filters changed: if a game was replaced, it is in at ply 0 in each that has it; if games have new numbers, the
-- entries move with them.
abbrev pub each_filter : (List (Option ℕ) → List (Option ℕ)) → Seat → Seat
each_filter change seat = record { filter = change seat.filter; saved = map (kept_with change) seat.saved }
