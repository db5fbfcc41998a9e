use Rattle.eco_class.proofs.LastLemmas.{eco_is}
use Rattle.eco_class.proofs.laws.codes_are_of_last_positions.Goals as goal

pub returns : goal.returns
returns c = record { last = eco_is }
