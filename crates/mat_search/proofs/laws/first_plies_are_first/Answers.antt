use Rattle.mat_search.proofs.FirstLemmas.{first_is}
use Rattle.mat_search.proofs.laws.first_plies_are_first.Goals as goal

pub returns : goal.returns
returns c = record { first = first_is }
