use Rattle.std.proofs.Common.{sym, ap, ◌∙◌, OnOk, subst}
use Rattle.report_commands.proofs.EcoLaws.{device_fault}
use Rattle.report_commands.proofs.classifying.classify.Goals as goal
use Rattle.report_commands.specs.Classifying.{state_by, text_by}
use Rattle.shell_state.proofs.Quietly.{if_err_so, if_ok}
use Rattle.shell_state.specs.Stands.{Stands}
use Rattle.shell_state.specs.State.{State}

pub returns-in-Ok-Ok-clause-line : goal.returns-in-Ok-Ok-clause-line
returns-in-Ok-Ok-clause-line g c = λ s text st told.
    let is = rw c.in-Ok-Ok.field-0-is at c.in-Ok-Ok.ensures.table text told in
    if_ok _ _ c.classify_by.result (λ line says. says ∙ ap (text_by s) (sym is)) (c.classify_by.ensures.line s st)

pub returns-in-Ok-Ok-clause-stands : goal.returns-in-Ok-Ok-clause-stands
returns-in-Ok-Ok-clause-stands g c = λ s text st told.
    let is = rw c.in-Ok-Ok.field-0-is at c.in-Ok-Ok.ensures.table text told in
    let P : State → Type 0 = λ after. OnOk c.classify_by.result (Stands c.classify_by.new.machine (g.F.Files.seen c.classify_by.new.files) after) in
    subst P (ap (state_by s) (sym is)) (c.classify_by.ensures.stands s st)

pub returns-in-Ok-Ok-clause-devices : goal.returns-in-Ok-Ok-clause-devices
returns-in-Ok-Ok-clause-devices g c = λ s st. if_err_so _ _ c.classify_by.result (λ e device. device_fault e device) (c.classify_by.ensures.devices s st)
