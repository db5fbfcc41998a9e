use Rattle.std.proofs.Common.{ap, ◌∙◌}
use Rattle.edit_commands.proofs.SaveLaws.{saved_carry}
use Rattle.edit_commands.proofs.saving.save.Goals as goal
use Rattle.edit_commands.specs.Saving.{saved_line, save_work}
use Rattle.shell_state.proofs.CarryLaws.{if_err, settled_of}
use Rattle.shell_state.proofs.Served.{line_serves, on_ok}

pub returns-in_err-line-clause-carries : goal.returns-in_err-line-clause-carries
returns-in_err-line-clause-carries g c = λ s st.
    if_err c.from_residual.result _ (saved_carry c.save_files.new.machine (g.F.Files.seen c.save_files.new.files) s (c.in_default.ensures.stands s st))

pub returns-clause-serves : goal.returns-clause-serves
returns-clause-serves g c = λ s st.
    let later = c.in_default.ensures.stands s st in
    let text = c.as_slice.ensures.value ∙ c.in_ok-line.ensures.line ∙ ap saved_line (c.games.ensures.games ∙ later.base.count) in
    line_serves c.write_line.result c.save_files.new.machine save_work c.as_slice.result.now (g.F.Files.seen c.save_files.new.files) s (g.K.Sink.taken c.args.out.now) (g.K.Sink.taken c.write_line.new.out)
    later text c.write_line.ensures.written c.write_line.ensures.halted c.write_line.ensures.output

pub returns-clause-carries : goal.returns-clause-carries
returns-clause-carries g c = λ s st.
    if_err c.write_line.result _ (saved_carry c.save_files.new.machine (g.F.Files.seen c.save_files.new.files) s (c.in_default.ensures.stands s st))

pub returns-clause-settled : goal.returns-clause-settled
returns-clause-settled g c = λ s st.
    if_err c.write_line.result _ (settled_of c.save_files.new.machine (g.F.Files.seen c.save_files.new.files) _ _ _ (c.in_default.ensures.stands s st))

pub returns-clause-saved : goal.returns-clause-saved
returns-clause-saved g c = on_ok _ c.write_line.result c.in_default.ensures.saved
