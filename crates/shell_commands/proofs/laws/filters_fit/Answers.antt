use Rattle.shell_commands.proofs.FitLaws.{script_has, task_has}
use Rattle.shell_commands.proofs.laws.filters_fit.Goals as goal

pub returns-clause-task : goal.returns-clause-task
returns-clause-task c = λ w s t has. task_has w s t has

pub returns-clause-script : goal.returns-clause-script
returns-clause-script c = λ w created fresh slots base done. script_has w created fresh slots base done
