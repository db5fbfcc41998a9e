-- At which plies a game matches a search of counts of men (this project's own).
use Rattle.std.specs.Prelude.{◌≡◌, ◌≤◌, ◌<◌, ℕ, ◌+◌, ◌-◌, ◌&&◌, ◌||◌, nat_le, Bool, true, false, List, ◌++◌, drop, take, Option, Some, None, map, slice_index}
use Rattle.std.specs.List.{find, list_all, range_with_len}
use Rattle.chess_laws.specs.Counts.{counts_of}
use Rattle.game_tree.specs.Game.{GameTree}
use Rattle.game_tree.specs.Replay.{plies_of, position_at}
use Rattle.sig_index.specs.declared.mat_query.MatQuery.{MatQuery}
use Rattle.sig_index.specs.declared.mat_query.MatRange.{MatRange}

-- The count at this place among the ten is from the least to the greatest that the range allows.
abbrev pub count_in : MatRange → List ℕ → ℕ → Bool
count_in range counts place =
    nat_le (slice_index range.lo place) (slice_index counts place) && nat_le (slice_index counts place) (slice_index range.hi place)

-- The ten counts are in the range: each of them is.
unfoldable pub in_range : MatRange → List ℕ → Bool
in_range range counts = list_all (count_in range counts) (range_with_len 0 10)

-- Ten bounds, five of each side, and a range, with the colours exchanged.
abbrev pub other_bounds : List ℕ → List ℕ
other_bounds bounds = drop 5 bounds ++ take 5 bounds

abbrev pub exchanged : MatRange → MatRange
exchanged range = record { lo = other_bounds range.lo; hi = other_bounds range.hi }

-- The counts after k moves of the main line.
abbrev pub counts_at : GameTree → ℕ → List ℕ
counts_at game k = counts_of (position_at game k).board

-- A streak: the counts are in the range at each of so many plies from this one on, and the main line has all of these plies.
abbrev pub is_streak : MatRange → GameTree → ℕ → ℕ → Bool
is_streak range game ply plies =
    nat_le (ply + plies - 1) (plies_of game) && list_all (λ k. in_range range (counts_at game k)) (range_with_len ply plies)

-- The game matches at a ply: it is from `ply_lo` to `ply_hi`, and a streak begins there, in the range or with `swap` in the exchanged one.
unfoldable pub matches_at : MatQuery → GameTree → ℕ → Bool
matches_at query game ply =
    nat_le query.ply_lo ply && nat_le ply query.ply_hi
    && (is_streak query.range game ply query.streak || (query.swap && is_streak (exchanged query.range) game ply query.streak))

-- The first ply of the main line at which it matches, or none if it never does; ply 0 is the start.
abbrev pub first_of : MatQuery → GameTree → Option ℕ
first_of query game = find (matches_at query game) (range_with_len 0 (plies_of game + 1))

-- The same as a relation: the game matches at this ply of its main line and at none before, or at none.
abbrev pub FirstPly : MatQuery → GameTree → Option ℕ → Type 0
FirstPly query game (Some ply) =
    (ply ≤ plies_of game) × ((matches_at query game ply ≡ true) × ((earlier : ℕ) → earlier < ply → matches_at query game earlier ≡ false))
FirstPly query game None = (ply : ℕ) → ply ≤ plies_of game → matches_at query game ply ≡ false

-- The first matching plies of all games.
abbrev pub firsts_of : MatQuery → List GameTree → List (Option ℕ)
firsts_of query games = map (first_of query) games
