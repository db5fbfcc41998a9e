use Rattle.std.proofs.Common.{Ok, refl}
use Rattle.script_text.specs.Tasks.{task}
use Rattle.shell_commands.proofs.ShownLaws.{shown_import}
use Rattle.shell_commands.proofs.TaskLaws.{task_settled}
use Rattle.shell_commands.proofs.TurnLaws.{kept_err, kept_then, no_export, turn_by, turn_shown}
use Rattle.shell_commands.proofs.ViewLaws.{not_edits}
use Rattle.shell_commands.proofs.changes.serve_edit.Goals as goal
use Rattle.shell_commands.specs.Tasks.{command_work}
use Rattle.shell_commands.specs.declared.parts.Part.TheVariants.{Edits}

pub show_line-requires-clause-fits : goal.show_line-requires-clause-fits
show_line-requires-clause-fits g c = let kept = c.in-Ok.ensures.kept c.args.window in record { filters = kept.sound.fits; tables = kept.sound.tables }

pub returns-in-Ok-clause-turn : goal.returns-in-Ok-clause-turn
returns-in-Ok-clause-turn g c = λ s text st told right.
    let but = c.in-Ok.ensures.line c.args.window s text st told in
    turn_shown c.args.command.now text (not_edits c.args.command.now c.requires.command.is) but.stands right c.show_line.ensures.updated
    (shown_import c.show_line.result c.edit_line.new.machine c.show_line.new.machine (command_work c.args.window c.args.command.now text) c.in-Ok.line.items c.as_slice.result.now (g.F.Files.seen c.edit_line.new.files) s _ _ _ c.show_line.ensures.updated.same but
    c.as_slice.ensures.value c.show_line.ensures.wrote.written c.show_line.ensures.wrote.halted c.show_line.ensures.wrote.output)

pub returns-in-Ok-clause-kept : goal.returns-in-Ok-clause-kept
returns-in-Ok-clause-kept g c =
    kept_then _ _ _ _ _ _ _ _ (no_export c.args.command.now Edits c.requires.command.is (λ is. cc))
    (λ s text st. task_settled c.show_line.result c.args.window c.edit_line.new.machine (g.F.Files.seen c.edit_line.new.files) s (task (Ok c.args.command.now) text) _ _ (c.in-Ok.ensures.behind c.args.window s text st))
    (c.in-Ok.ensures.kept c.args.window) c.show_line.ensures.updated.same c.show_line.ensures.updated.others c.show_line.ensures.updated.number c.show_line.ensures.wrote.none_lost c.show_line.ensures.wrote.causes

pub returns-in-Err-clause-turn : goal.returns-in-Err-clause-turn
returns-in-Err-clause-turn g c = λ s text st told right. turn_by (c.in-Err.ensures.line c.args.window s text st told) tt (λ i none. refl)

pub returns-in-Err-clause-kept : goal.returns-in-Err-clause-kept
returns-in-Err-clause-kept g c = kept_err (c.in-Err.ensures.kept c.args.window)
