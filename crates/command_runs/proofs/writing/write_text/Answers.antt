use Rattle.command_runs.proofs.Joining.{none_lost_by}
use Rattle.command_runs.proofs.writing.write_text.Goals as goal

pub returns-in-Ok-clause-none_lost : goal.returns-in-Ok-clause-none_lost
returns-in-Ok-clause-none_lost g c = none_lost_by _ _ c.write_all.ensures.none_lost
