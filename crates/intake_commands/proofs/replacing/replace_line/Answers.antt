use Rattle.std.proofs.Common.{None, ap, ◌∙◌}
use Rattle.intake_commands.proofs.OneGameLaws.{none_new, refused_new, says_at, stands_at}
use Rattle.intake_commands.proofs.replacing.replace_line.Goals as goal
use Rattle.intake_commands.specs.Importing.{line_with}
use Rattle.shell_state.proofs.CarryLaws.{carry_of}
use Rattle.shell_state.specs.Lines.{no_game_line}

pub returns-in-Some-clause-line : goal.returns-in-Some-clause-line
returns-in-Some-clause-line g c = λ s text st told. says_at c.replace_there.result (λ line. line.items) s text c.in-Some.i c.args.number c.in-Some.ensures.at.0 (c.replace_there.ensures.line s text st told)

pub returns-in-Some-clause-stands : goal.returns-in-Some-clause-stands
returns-in-Some-clause-stands g c = λ s text st told.
    stands_at c.replace_there.result c.replace_there.new.machine (g.F.Files.seen c.replace_there.new.files) s text c.in-Some.i c.args.number c.in-Some.ensures.at.0 (c.replace_there.ensures.stands s text st told)

pub returns-in_ok-no_game_line-in-None-clause-line : goal.returns-in_ok-no_game_line-in-None-clause-line
returns-in_ok-no_game_line-in-None-clause-line g c = λ s text st told.
    c.in_ok-no_game_line-in-None.ensures ∙ ap (line_with c.args.number) (none_new c.args.machine.now (g.F.Files.seen c.args.files.now) s c.args.number text st c.in-None.ensures.at)

pub returns-in_ok-no_game_line-in-None-clause-stands : goal.returns-in_ok-no_game_line-in-None-clause-stands
returns-in_ok-no_game_line-in-None-clause-stands g c = λ s text st told.
    refused_new c.args.machine.now (g.F.Files.seen c.args.files.now) s c.args.number (no_game_line c.args.number) _
    (none_new c.args.machine.now (g.F.Files.seen c.args.files.now) s c.args.number text st c.in-None.ensures.at) st

pub returns-in_err-no_game_line-in-None-clause-carries : goal.returns-in_err-no_game_line-in-None-clause-carries
returns-in_err-no_game_line-in-None-clause-carries g c = λ s st. carry_of c.args.machine.now (g.F.Files.seen c.args.files.now) s None st

pub returns-in_ok-no_game_line-in-None-clause-carries : goal.returns-in_ok-no_game_line-in-None-clause-carries
returns-in_ok-no_game_line-in-None-clause-carries g c = λ s st. carry_of c.args.machine.now (g.F.Files.seen c.args.files.now) s None st
