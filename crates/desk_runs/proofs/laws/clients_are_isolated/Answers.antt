use Rattle.desk_runs.proofs.IsolationLaws.{isolation}
use Rattle.desk_runs.proofs.laws.clients_are_isolated.Goals as goal

pub returns : goal.returns
returns c = record { isolated = isolation }
