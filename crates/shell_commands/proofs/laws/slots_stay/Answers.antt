use Rattle.shell_commands.proofs.SlotLaws.{task_number, task_others, task_stays}
use Rattle.shell_commands.proofs.laws.slots_stay.Goals as goal

pub returns : goal.returns
returns c = record { stay = task_stays; others = task_others; number = task_number }
