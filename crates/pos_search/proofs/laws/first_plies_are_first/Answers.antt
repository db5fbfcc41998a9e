use Rattle.pos_search.proofs.FirstLemmas.{exact_is, first_is}
use Rattle.pos_search.proofs.laws.first_plies_are_first.Goals as goal

pub returns : goal.returns
returns c = record { first = first_is; exact = exact_is }
