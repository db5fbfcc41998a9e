use Rattle.desk_runs.proofs.FilterLaws.{line_fits, script_fits}
use Rattle.desk_runs.proofs.laws.filters_of_all_clients_fit.Goals as goal

pub returns-clause-line : goal.returns-clause-line
returns-clause-line c = λ desk t has. line_fits desk t has

pub returns-clause-script : goal.returns-clause-script
returns-clause-script c = λ tagged created fresh slots base done. script_fits tagged created fresh slots base done
