-- What the functions of this crate keep of the plies of a main line.
use Rattle.std.specs.Prelude.{◌≡◌, ℕ, ◌<◌, ◌==◌, ◌&&◌, ◌||◌, Bool, true, false, List}
use Rattle.sig_index.specs.declared.mat_query.MatQuery.{MatQuery}
use Rattle.sig_index.specs.declared.mat_query.MatRange.{MatRange}
use Rattle.mat_search.specs.declared.looking.Kept.{Kept}
use Rattle.mat_search.specs.declared.looking.Told.{Told}
use Rattle.mat_search.specs.declared.looking.Told.TheVariants.{Found, Over, Open}
use Rattle.mat_search.specs.Streaks.{IsStanding, is_over, streak_after}

-- It is so of the counts, no streak is as long as is asked yet, and where the counts are not in a range none of it is under way.
pub record IsKept (query : MatQuery) (other : MatRange) (kept : Kept) : Type 0 where
  pub stands : IsStanding query other kept.standing
  pub own_short : kept.streaks.own < query.streak
  pub other_short : kept.streaks.other < query.streak
  pub own_none : kept.standing.own ≡ false → kept.streaks.own ≡ 0
  pub other_none : kept.standing.other ≡ false → kept.streaks.other ≡ 0

-- What is kept after one ply more, which has these counts.
pub record LooksAt (query : MatQuery) (other : MatRange) (ply : ℕ) (counts : List ℕ) (old new : Kept) : Type 0 where
  pub counts_are : new.standing.counts ≡ counts
  pub stands : IsStanding query other new.standing
  pub own_after : new.streaks.own ≡ streak_after query old.streaks.own ply new.standing.own
  pub other_after : new.streaks.other ≡ streak_after query old.streaks.other ply new.standing.other

-- One of the streaks is as long as is asked; and none is under way.
abbrev pub is_whole : MatQuery → Kept → Bool
is_whole query kept = (kept.streaks.own == query.streak) || (kept.streaks.other == query.streak)

abbrev pub is_none : Kept → Bool
is_none kept = (kept.streaks.own == 0) && (kept.streaks.other == 0)

-- What a ply tells after which this is kept.
abbrev pub Tells : MatQuery → MatRange → ℕ → Kept → Told → Type 0
Tells query other ply kept Found = is_whole query kept ≡ true
Tells query other ply kept Over = (is_none kept && is_over query other ply kept.standing.counts) ≡ true
Tells query other ply kept Open = IsKept query other kept
