use Rattle.std.proofs.Common.{Some, refl}
use Rattle.command_runs.proofs.Joining.{halted_none}
use Rattle.index_commands.proofs.indexing.index_to.Goals as goal
use Rattle.index_commands.specs.Indexing.{index_text, index_work}
use Rattle.shell_state.proofs.Causing.{broken_by_device}

pub returns-in-Err-clause-serves : goal.returns-in-Err-clause-serves
returns-in-Err-clause-serves g c = λ s st. record {
  wrote = halted_none (index_text s (Some c.args.depth)) (g.K.Sink.taken c.args.out.now);
  broken = broken_by_device s (index_work (Some c.args.depth)) c.in-Err.halt refl refl (c.in-Err.ensures.devices s st) _ _;
}
