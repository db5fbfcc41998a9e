use Rattle.std.proofs.Common.{◌≡◌, Err, ap, ◌∙◌}
use Rattle.std.proofs.lemmas.Result.{err_from_is_err_and}
use Rattle.base_files.specs.declared.faults.Stop.TheVariants as stop
use Rattle.intake_commands.proofs.BodyLaws.{import_cut, import_done, import_memory}
use Rattle.intake_commands.proofs.importing.import.Goals as goal
use Rattle.shell_state.specs.declared.halt.Halt.{Halt}
use Rattle.shell_state.specs.declared.halt.Halt.TheVariants as halt

pub returns-in-Err-clause-serves : goal.returns-in-Err-clause-serves
returns-in-Err-clause-serves g c = λ s text st left.
    let took = c.in-Err.ensures.takes s text st left in
    import_cut c.take_all.new.machine s text (g.K.Sink.taken c.args.out.now) (g.K.Sink.taken c.take_all.new.out) c.in-Err.halt took.0 took.1 took.2

pub returns-in-Err-clause-first : goal.returns-in-Err-clause-first
returns-in-Err-clause-first g c = λ s text st left. (c.in-Err.ensures.takes s text st left).2

pub returns-in_err-imported_line-clause-serves : goal.returns-in_err-imported_line-clause-serves
returns-in_err-imported_line-clause-serves g c =
    let made = err_from_is_err_and c.from_residual.result c.from_residual.ensures.1 in
    let memory : c.from_residual.result ≡ Err (halt.Device stop.Memory) = made.1 ∙ ap (λ (e : Halt). Err e) made.2 in
    λ s text st left.
    import_memory c.from_residual.result c.take_all.new.machine (g.F.Files.seen c.take_all.new.files) s text c.in-Ok.counts.0 c.in-Ok.counts.1 (g.K.Sink.taken c.args.out.now) (g.K.Sink.taken c.take_all.new.out) memory
    (c.in-Ok.ensures.takes s text st left)

pub returns-clause-serves : goal.returns-clause-serves
returns-clause-serves g c = λ s text st left.
    import_done c.take_all.new.machine (g.F.Files.seen c.take_all.new.files) s text _ c.in-Ok.counts.0 c.in-Ok.counts.1 (g.K.Sink.taken c.args.out.now) (g.K.Sink.taken c.take_all.new.out)
    (c.in-Ok.ensures.takes s text st left) c.in_ok-imported_line.ensures.line
