use Rattle.std.proofs.Common.{None, ap, ◌∙◌}
use Rattle.intake_commands.proofs.IntakeLaws.{body_device}
use Rattle.intake_commands.proofs.OneGameLaws.{faulty_new, game_new, other_new, refused_new, says_new, stands_new}
use Rattle.intake_commands.proofs.replacing.replace_there.Goals as goal
use Rattle.intake_commands.specs.Importing.{faulty_line, line_with}
use Rattle.intake_commands.proofs.ByCase.{one_game_line}
use Rattle.shell_state.proofs.CarryLaws.{carry_of}
use Rattle.shell_state.proofs.Quietly.{if_err_so}
use Rattle.shell_state.specs.Ends.{IsDevice, IsBodyFault}

pub returns-in-Ok-Game-clause-line : goal.returns-in-Ok-Game-clause-line
returns-in-Ok-Game-clause-line g c = λ s text st told.
    let only = rw c.in-Ok-Game.field-0-is at c.in-Ok-Game.ensures.only in
    says_new c.put_game.result (λ line. line.items) c.args.i _ _ (game_new c.args.machine.now (g.F.Files.seen c.args.files.now) s c.args.i text _ _ st c.requires.there (only text told)) (c.put_game.ensures.line s st)

pub returns-in-Ok-Game-clause-stands : goal.returns-in-Ok-Game-clause-stands
returns-in-Ok-Game-clause-stands g c = λ s text st told.
    let only = rw c.in-Ok-Game.field-0-is at c.in-Ok-Game.ensures.only in
    stands_new c.put_game.result c.put_game.new.machine (g.F.Files.seen c.put_game.new.files) s c.args.i _ _ (game_new c.args.machine.now (g.F.Files.seen c.args.files.now) s c.args.i text _ _ st c.requires.there (only text told)) (c.put_game.ensures.stands s st)

pub returns-in-Ok-Game-clause-devices : goal.returns-in-Ok-Game-clause-devices
returns-in-Ok-Game-clause-devices g c = if_err_so IsDevice IsBodyFault c.put_game.result body_device c.put_game.ensures.devices

pub returns-in_ok-line_of-in-Ok-Other-clause-line : goal.returns-in_ok-line_of-in-Ok-Other-clause-line
returns-in_ok-line_of-in-Ok-Other-clause-line g c = λ s text st told.
    let only = rw c.in-Ok-Other.field-0-is at c.in-Ok-Other.ensures.only in
    c.in_ok-line_of-in-Ok-Other.ensures ∙ ap (line_with c.args.i) (other_new c.args.machine.now (g.F.Files.seen c.args.files.now) s c.args.i text st c.requires.there (only text told))

pub returns-in_ok-line_of-in-Ok-Other-clause-stands : goal.returns-in_ok-line_of-in-Ok-Other-clause-stands
returns-in_ok-line_of-in-Ok-Other-clause-stands g c = λ s text st told.
    let only = rw c.in-Ok-Other.field-0-is at c.in-Ok-Other.ensures.only in
    refused_new c.args.machine.now (g.F.Files.seen c.args.files.now) s c.args.i one_game_line _ (other_new c.args.machine.now (g.F.Files.seen c.args.files.now) s c.args.i text st c.requires.there (only text told)) st

pub returns-in_ok-faulty_line-in-Ok-Faulty-clause-line : goal.returns-in_ok-faulty_line-in-Ok-Faulty-clause-line
returns-in_ok-faulty_line-in-Ok-Faulty-clause-line g c = λ s text st told.
    let only = rw c.in-Ok-Faulty.field-0-is at c.in-Ok-Faulty.ensures.only in
    c.in_ok-faulty_line-in-Ok-Faulty.ensures.line
    ∙ ap (line_with c.args.i) (faulty_new c.args.machine.now (g.F.Files.seen c.args.files.now) s c.args.i text c.in-Ok-Faulty.number c.in-Ok-Faulty.fault st c.requires.there (only text told))

pub returns-in_ok-faulty_line-in-Ok-Faulty-clause-stands : goal.returns-in_ok-faulty_line-in-Ok-Faulty-clause-stands
returns-in_ok-faulty_line-in-Ok-Faulty-clause-stands g c = λ s text st told.
    let only = rw c.in-Ok-Faulty.field-0-is at c.in-Ok-Faulty.ensures.only in
    refused_new c.args.machine.now (g.F.Files.seen c.args.files.now) s c.args.i (faulty_line c.in-Ok-Faulty.number c.in-Ok-Faulty.fault) _
    (faulty_new c.args.machine.now (g.F.Files.seen c.args.files.now) s c.args.i text c.in-Ok-Faulty.number c.in-Ok-Faulty.fault st c.requires.there (only text told)) st

pub returns-in_err-line_of-in-Ok-Other-clause-carries : goal.returns-in_err-line_of-in-Ok-Other-clause-carries
returns-in_err-line_of-in-Ok-Other-clause-carries g c = λ s st. carry_of c.args.machine.now (g.F.Files.seen c.args.files.now) s None st

pub returns-in_ok-line_of-in-Ok-Other-clause-carries : goal.returns-in_ok-line_of-in-Ok-Other-clause-carries
returns-in_ok-line_of-in-Ok-Other-clause-carries g c = λ s st. carry_of c.args.machine.now (g.F.Files.seen c.args.files.now) s None st

pub returns-in_err-faulty_line-in-Ok-Faulty-clause-carries : goal.returns-in_err-faulty_line-in-Ok-Faulty-clause-carries
returns-in_err-faulty_line-in-Ok-Faulty-clause-carries g c = λ s st. carry_of c.args.machine.now (g.F.Files.seen c.args.files.now) s None st

pub returns-in_ok-faulty_line-in-Ok-Faulty-clause-carries : goal.returns-in_ok-faulty_line-in-Ok-Faulty-clause-carries
returns-in_ok-faulty_line-in-Ok-Faulty-clause-carries g c = λ s st. carry_of c.args.machine.now (g.F.Files.seen c.args.files.now) s None st

pub returns-in-Err-clause-carries : goal.returns-in-Err-clause-carries
returns-in-Err-clause-carries g c = λ s st. carry_of c.args.machine.now (g.F.Files.seen c.args.files.now) s None st
