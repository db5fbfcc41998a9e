use Rattle.command_runs.proofs.Joining.{none_lost_by}
use Rattle.text_commands.proofs.listing.write_list.Goals as goal

pub returns-in-Ok-clause-none_lost : goal.returns-in-Ok-clause-none_lost
returns-in-Ok-clause-none_lost g c = none_lost_by _ _ c.put_list.ensures.none_lost
