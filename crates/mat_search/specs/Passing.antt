-- Which games a search of counts of men has to read, by their signatures (this project's own).
use Rattle.std.specs.Prelude.{◌+◌, ◌-◌, ◌==◌, ◌&&◌, ◌||◌, nat_le, Bool}
use Rattle.sig_index.specs.declared.mat_query.MatQuery.{MatQuery}
use Rattle.sig_index.specs.declared.mat_query.MatRange.{MatRange}
use Rattle.sig_index.specs.declared.signature.Sig.{Sig}
use Rattle.sig_index.specs.Having.{can_have}
use Rattle.sig_index.specs.Skipping.{can_stand}
use Rattle.mat_search.specs.Matching.{exchanged}

-- The main line can have all plies of a streak that begins at `ply_lo`: it has that many, or as many as a signature tells at most.
abbrev pub is_long : Sig → MatQuery → Bool
is_long sig query = nat_le (query.ply_lo + query.streak - 1) sig.plies || (sig.plies == 1023)

-- The counts can have stood in the range: at most its greatest, and at least its least.
unfoldable pub can_be_in : Sig → MatRange → Bool
can_be_in sig range = can_stand sig range && can_have sig range

-- They can have stood in the query's range, or with `swap` in the exchanged one.
abbrev pub can_match : Sig → MatQuery → Bool
can_match sig query = can_be_in sig query.range || (query.swap && can_be_in sig (exchanged query.range))

-- A game with this signature can match.
unfoldable pub passes : Sig → MatQuery → Bool
passes sig query = is_long sig query && can_match sig query
