-- Which games a search of counts of men can leave unread, by their signatures (this project's own).
use Rattle.std.specs.Prelude.{ℕ, ◌+◌, ◌-◌, ◌<◌, ◌≤◌, ◌==◌, ◌&&◌, ◌||◌, nat_le, Bool, List, slice_index}
use Rattle.sig_index.specs.declared.mat_query.MatRange.{MatRange}
use Rattle.sig_index.specs.declared.signature.Sig.{Sig}
use Rattle.sig_index.specs.Coming.{over_lesser, over_pieces}

-- Each of the ten counts is at most the greatest that the range allows.
abbrev pub AreAtMost : List ℕ → MatRange → Type 0
AreAtMost counts range = (place : ℕ) → place < 10 → slice_index counts place ≤ slice_index range.hi place

-- How far the last count of a kind is above the greatest that the range allows, by the kind's place among the ten.
abbrev pub rise : Sig → MatRange → ℕ → ℕ
rise sig range place = slice_index sig.material place - slice_index range.hi place

-- One colour's counts can have been at most those of the range. No more pawns are left than it allows, and each rise is
-- one of the other pawns that it allows, promoted. The game had promotions if there is a rise, and promotions to other
-- men than queens if the rise is of rooks, bishops or knights.
abbrev pub colour_can_stand : Sig → MatRange → ℕ → Bool
colour_can_stand sig range queens =
    nat_le (slice_index sig.material (queens + 4)) (slice_index range.hi (queens + 4))
    && nat_le (over_pieces (rise sig range) queens) (slice_index range.hi (queens + 4) - slice_index sig.material (queens + 4))
    && (sig.promo || (over_pieces (rise sig range) queens == 0))
    && (sig.under || (over_lesser (rise sig range) queens == 0))

-- The counts of a game with this signature can have been at most those of the range at some ply: White's and Black's.
abbrev pub can_stand : Sig → MatRange → Bool
can_stand sig range = colour_can_stand sig range 0 && colour_can_stand sig range 5

-- None of one colour's counts is above the greatest that is allowed. Only private functions cite this.
abbrev pub are_within : List ℕ → List ℕ → ℕ → Bool
are_within counts most queens =
    nat_le (slice_index counts queens) (slice_index most queens)
    && nat_le (slice_index counts (queens + 1)) (slice_index most (queens + 1))
    && nat_le (slice_index counts (queens + 2)) (slice_index most (queens + 2))
    && nat_le (slice_index counts (queens + 3)) (slice_index most (queens + 3))
    && nat_le (slice_index counts (queens + 4)) (slice_index most (queens + 4))
