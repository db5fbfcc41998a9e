-- What a search for counts has read.
use Rattle.std.proofs.Common.{◌≡◌, ℕ, suc, Bool, List, [], ◌∷◌, None, map, refl, ap}
use Rattle.game_search.specs.Questions.{Unread, reads_from}
use Rattle.sig_index.specs.declared.mat_query.MatQuery.{MatQuery}
use Rattle.sig_index.specs.declared.signature.Sig.{Sig}
use Rattle.mat_search.specs.Passing.{passes}

-- What a query has read.
abbrev pub unread_of : MatQuery → Unread
unread_of query = record { reads = λ i sig. passes sig query; ply = λ i. None }

pub reads_are : (query : MatQuery) (from : ℕ) (sigs : List Sig) → reads_from (unread_of query).reads from sigs ≡ map (λ sig. passes sig query) sigs
reads_are query from [] = refl
reads_are query from (sig ∷ sigs) = ap (λ (l : List Bool). passes sig query ∷ l) (reads_are query (suc from) sigs)
