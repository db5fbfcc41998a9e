use Rattle.command_runs.proofs.Joining.{none_lost_by}
use Rattle.shell_state.proofs.page.write_page.Goals as goal

pub returns-in-Ok-clause-none_lost : goal.returns-in-Ok-clause-none_lost
returns-in-Ok-clause-none_lost g c = none_lost_by _ _ c.write_from.ensures.grew

pub returns-in-Err-clause-none_lost : goal.returns-in-Err-clause-none_lost
returns-in-Err-clause-none_lost g c = none_lost_by _ _ c.write_from.ensures.grew
