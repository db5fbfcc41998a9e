use Rattle.std.proofs.Common.{[], refl}
use Rattle.shell_commands.proofs.ShownLaws.{quiet_said, quiet_said_sound}
use Rattle.shell_commands.proofs.TurnLaws.{kept_writes, simple_of}
use Rattle.shell_commands.proofs.answers.write_answer.Goals as goal
use Rattle.shell_commands.specs.Tasks.{command_work}

pub returns-clause-serves : goal.returns-clause-serves
returns-clause-serves g c = λ w seen s text st.
    quiet_said c.answer_of-answer.result c.say.result c.args.machine.now c.answer_of-answer.new.machine (command_work w c.args.command.now text) seen s _ _ (c.answer_of-answer.ensures.quiet w text) c.say.ensures.said st

pub returns-clause-kept : goal.returns-clause-kept
returns-clause-kept g c = λ w seen asked files input sound.
    let plain = simple_of c.args.command.now _ c.requires.command.is refl in
    kept_writes seen asked files input _ _ _ _ plain.left plain.demo plain.export (λ i other. refl) refl
    (quiet_said_sound c.answer_of-answer.result c.say.result c.args.machine.now c.answer_of-answer.new.machine (command_work w c.args.command.now []) seen _ _ (c.answer_of-answer.ensures.quiet w []) c.say.ensures.said sound)
    c.say.ensures.none_lost c.say.ensures.causes
