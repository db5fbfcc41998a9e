use Rattle.sig_index.proofs.ComingLemmas.{comes}
use Rattle.sig_index.proofs.coming.missing_men_are_promoted.Goals as goal

pub returns : goal.returns
returns c = record { sound = comes }
