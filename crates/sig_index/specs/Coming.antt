-- Which counts of men can still come in a game (this project's own).
use Rattle.std.specs.Prelude.{ℕ, ◌+◌, ◌-◌, ◌<◌, ◌≤◌, ◌&&◌, nat_le, Bool, List, slice_index}
use Rattle.sig_index.specs.declared.mat_query.MatRange.{MatRange}

-- Each of the ten counts is at least the least that the range allows.
abbrev pub AreAtLeast : List ℕ → MatRange → Type 0
AreAtLeast counts range = (place : ℕ) → place < 10 → slice_index range.lo place ≤ slice_index counts place

-- How many men of a kind are missing to the least that the range allows, by the kind's place among the ten.
abbrev pub lack : MatRange → List ℕ → ℕ → ℕ
lack range counts place = slice_index range.lo place - slice_index counts place

-- The sum over one colour's rooks, bishops and knights, and with them its queens, which stand at this place among the ten.
abbrev pub over_lesser : (ℕ → ℕ) → ℕ → ℕ
over_lesser f queens = f (queens + 1) + f (queens + 2) + f (queens + 3)

abbrev pub over_pieces : (ℕ → ℕ) → ℕ → ℕ
over_pieces f queens = f queens + over_lesser f queens

-- One colour's counts can come into the range: what is missing can be made of the pawns that are more than the least.
abbrev pub colour_can_come : MatRange → List ℕ → ℕ → Bool
colour_can_come range counts queens =
    nat_le (over_pieces (lack range counts) queens + slice_index range.lo (queens + 4)) (slice_index counts (queens + 4))

-- Both can.
unfoldable pub can_come : MatRange → List ℕ → Bool
can_come range counts = colour_can_come range counts 0 && colour_can_come range counts 5
