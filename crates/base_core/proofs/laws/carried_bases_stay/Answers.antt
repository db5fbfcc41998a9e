use Rattle.base_core.proofs.GrowLaws.{carries-longer, means-carries}
use Rattle.base_core.proofs.laws.carried_bases_stay.Goals as goal

pub returns : goal.returns
returns c = record { meant = means-carries; longer = carries-longer }
