use Rattle.std.proofs.Common.{[], refl, ◌∙◌}
use Rattle.shell_commands.proofs.ShownLaws.{shown_serves, shown_sound}
use Rattle.shell_commands.proofs.TurnLaws.{kept_writes, simple_of, turn_shown}
use Rattle.shell_commands.proofs.ViewLaws.{not_lines}
use Rattle.shell_commands.proofs.lines.serve_line.Goals as goal
use Rattle.shell_commands.specs.Tasks.{command_work}

pub show_line-requires-clause-fits : goal.show_line-requires-clause-fits
show_line-requires-clause-fits g c = let quiet = c.change_line-line.ensures.quiet c.args.window [] in record { filters = quiet.fits; tables = quiet.tables c.requires.fits.tables }

pub returns-clause-turn : goal.returns-clause-turn
returns-clause-turn g c = λ seen s text st right.
    let quiet = c.change_line-line.ensures.quiet c.args.window text in
    turn_shown c.args.command.now text (not_lines c.args.command.now c.requires.command.is) (quiet.stands seen s st) right c.show_line.ensures.updated
    (shown_serves c.show_line.result c.change_line-line.new.machine c.show_line.new.machine (command_work c.args.window c.args.command.now text) c.as_slice.result.now seen s _ _ c.show_line.ensures.updated.same (quiet.stands seen s st)
    (c.as_slice.ensures.value ∙ quiet.text seen s st) c.show_line.ensures.wrote.written c.show_line.ensures.wrote.halted c.show_line.ensures.wrote.output)

pub returns-clause-kept : goal.returns-clause-kept
returns-clause-kept g c = λ seen asked files input sound.
    let plain = simple_of c.args.command.now _ c.requires.command.is refl in
    kept_writes seen asked files input _ _ _ _ plain.left plain.demo plain.export c.show_line.ensures.updated.others c.show_line.ensures.updated.number
    (shown_sound c.show_line.result c.args.machine.now c.change_line-line.new.machine c.show_line.new.machine (command_work c.args.window c.args.command.now []) c.change_line-line.result.items seen c.show_line.ensures.updated.same (c.change_line-line.ensures.quiet c.args.window []) sound)
    c.show_line.ensures.wrote.none_lost c.show_line.ensures.wrote.causes
