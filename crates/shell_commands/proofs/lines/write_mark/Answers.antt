use Rattle.std.proofs.Common.{[], refl, sym, subst, ℕ, List}
use Rattle.shell_commands.proofs.ShownLaws.{quiet_sound}
use Rattle.shell_commands.proofs.TurnLaws.{kept_writes, simple_of}
use Rattle.shell_commands.proofs.lines.write_mark.Goals as goal
use Rattle.shell_commands.specs.Tasks.{command_work}
use Rattle.shell_state.proofs.Served.{on_ok, quiet_serves}
use Rattle.shell_state.specs.Stands.{Quiet}

pub returns-clause-serves : goal.returns-clause-serves
returns-clause-serves g c = λ w seen s text st.
    let P : List ℕ → Type 0 = λ line. Quiet c.args.machine.now (command_work w c.args.command.now text) c.change_line-line.new.machine line in
    quiet_serves c.write_line.result c.args.machine.now c.change_line-line.new.machine (command_work w c.args.command.now text) c.as_slice.result.now seen s _ _
    (subst P (sym c.as_slice.ensures.value) (c.change_line-line.ensures.quiet w text)) st c.write_line.ensures.written c.write_line.ensures.halted c.write_line.ensures.output

pub returns-clause-kept : goal.returns-clause-kept
returns-clause-kept g c = λ w seen asked files input sound.
    let plain = simple_of c.args.command.now _ c.requires.command.is refl in
    kept_writes seen asked files input _ _ _ _ plain.left plain.demo plain.export (λ i other. refl) refl
    (on_ok _ c.write_line.result (quiet_sound c.args.machine.now c.change_line-line.new.machine (command_work w c.args.command.now []) c.change_line-line.result.items seen (c.change_line-line.ensures.quiet w []) sound))
    c.write_line.ensures.none_lost c.write_line.ensures.causes
