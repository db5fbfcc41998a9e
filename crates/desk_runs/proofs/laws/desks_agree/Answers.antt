use Rattle.desk_runs.proofs.AgreeLaws.{agree}
use Rattle.desk_runs.proofs.laws.desks_agree.Goals as goal

pub returns : goal.returns
returns c = record { agree = agree }
