use Rattle.desk_runs.proofs.RefusalLaws.{line_refused}
use Rattle.desk_runs.proofs.laws.refused_lines_change_nothing.Goals as goal

pub returns : goal.returns
returns c = record { refused = line_refused }
