use Rattle.std.proofs.Common.{refl}
use Rattle.shell_commands.proofs.TurnLaws.{updated_by}
use Rattle.shell_commands.proofs.showing.show_line.Goals as goal
use Rattle.shell_state.proofs.Served.{on_ok}

pub returns-in-Ok-clause-updated : goal.returns-in-Ok-clause-updated
returns-in-Ok-clause-updated g c = updated_by c.in-Ok.ensures.updated (on_ok _ c.write_line.result refl)
