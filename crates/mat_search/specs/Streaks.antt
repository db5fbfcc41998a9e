-- Streaks as the functions of this crate keep count of them along a main line.
use Rattle.std.specs.Prelude.{◌≡◌, ℕ, ◌+◌, ◌&&◌, ◌||◌, not, nat_le, nat_lt, if◌then◌else◌, Bool, List}
use Rattle.sig_index.specs.declared.mat_query.MatQuery.{MatQuery}
use Rattle.sig_index.specs.declared.mat_query.MatRange.{MatRange}
use Rattle.sig_index.specs.Coming.{can_come}
use Rattle.mat_search.specs.declared.standing.Standing.{Standing}
use Rattle.mat_search.specs.Matching.{in_range}

-- How many of the last plies are of a streak, up to this ply, at which the counts are in the range or not: a streak goes on, or begins
-- where a match may begin.
abbrev pub streak_after : MatQuery → ℕ → ℕ → Bool → ℕ
streak_after query streak ply fits =
    if fits && (nat_lt 0 streak || (nat_le query.ply_lo ply && nat_le ply query.ply_hi)) then streak + 1 else 0

-- The counts can come into the range, or with `swap` into the other one.
abbrev pub can_match_later : MatQuery → MatRange → List ℕ → Bool
can_match_later query other counts = can_come query.range counts || (query.swap && can_come other counts)

-- No match begins behind this ply, at which no streak is under way: it is the last at which one may, or the counts come into the ranges
-- no more.
unfoldable pub is_over : MatQuery → MatRange → ℕ → List ℕ → Bool
is_over query other ply counts = nat_le query.ply_hi ply || not (can_match_later query other counts)

-- What was kept of the counts of a ply: whether they are in the range, with `swap` in the other one, whether they can come
-- into them, and whether that is all.
pub record IsStanding (query : MatQuery) (other : MatRange) (standing : Standing) : Type 0 where
  pub in_own : standing.own ≡ in_range query.range standing.counts
  pub in_other : standing.other ≡ (query.swap && in_range other standing.counts)
  pub come : standing.later ≡ can_match_later query other standing.counts
  pub idles : standing.idle ≡ (not standing.own && not standing.other && standing.later)
