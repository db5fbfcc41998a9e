use Rattle.std.proofs.Common.{Ok, ap}
use Rattle.script_text.specs.declared.command.Command.{Command}
use Rattle.desk_commands.proofs.BringLaws.{tells_numbered}
use Rattle.desk_commands.proofs.moving.Before.moved_with.Goals as goal

pub returns-in-Compact : goal.returns-in-Compact
returns-in-Compact c = record {
  moved = λ old. tells_numbered (Ok c.args.command.now) old c.args.machine.now.kept c.args.self.now _ (ap (λ (x : Command). Ok x) c.in-Compact.is) c.renumbered.ensures.moved;
}
