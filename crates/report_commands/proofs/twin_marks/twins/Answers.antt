use Rattle.std.proofs.Common.{refl}
use Rattle.command_runs.proofs.Joining.{halted_none}
use Rattle.report_commands.proofs.twin_marks.twins.Goals as goal
use Rattle.report_commands.specs.Twins.{twins_work}
use Rattle.shell_state.proofs.Causing.{broken_by_device}

pub returns-in-Err-clause-serves : goal.returns-in-Err-clause-serves
returns-in-Err-clause-serves g c = λ s st. record {
  wrote = halted_none ((twins_work c.args.depth).text s) (g.K.Sink.taken c.args.out.now);
  broken = broken_by_device s (twins_work c.args.depth) c.in-Err.halt refl refl (c.in-Err.ensures.devices s st) _ _;
}
