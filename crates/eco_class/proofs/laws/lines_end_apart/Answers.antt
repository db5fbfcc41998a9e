use Rattle.eco_class.proofs.ApartLemmas.{lines_apart}
use Rattle.eco_class.proofs.laws.lines_end_apart.Goals as goal

pub returns : goal.returns
returns c = record { apart = lines_apart }
