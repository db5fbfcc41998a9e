use Rattle.std.proofs.Common.{refl, ◌∙◌}
use Rattle.report_commands.proofs.classifying.eco.Goals as goal
use Rattle.report_commands.specs.Classifying.{eco_work}
use Rattle.shell_state.proofs.Served.{line_serves, task_unwritten}

pub returns-in-Ok-clause-serves : goal.returns-in-Ok-clause-serves
returns-in-Ok-clause-serves g c = λ s text st told.
    line_serves c.write_line.result c.classify.new.machine (eco_work text) c.as_slice.result.now (g.F.Files.seen c.classify.new.files) s (g.K.Sink.taken c.args.out.now) (g.K.Sink.taken c.write_line.new.out)
    (c.in-Ok.ensures.stands s text st told) (c.as_slice.ensures.value ∙ c.in-Ok.ensures.line s text st told) c.write_line.ensures.written c.write_line.ensures.halted c.write_line.ensures.output

pub returns-in-Err-clause-serves : goal.returns-in-Err-clause-serves
returns-in-Err-clause-serves g c = λ s text st told.
    task_unwritten s (eco_work text) c.in-Err.halt (g.K.Sink.taken c.args.out.now) refl refl refl (c.in-Err.ensures.devices s st)
