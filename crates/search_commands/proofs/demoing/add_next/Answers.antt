use Rattle.std.proofs.Common.{None, ◌∙◌}
use Rattle.search_commands.proofs.DemoLaws.{adding_more, refused_here}
use Rattle.search_commands.proofs.demoing.add_next.Goals as goal
use Rattle.shell_state.proofs.CarryLaws.{carry_of}

pub returns-in_err-head-clause-carries : goal.returns-in_err-head-clause-carries
returns-in_err-head-clause-carries g c = λ s st. carry_of c.args.machine.now (g.F.Files.seen c.args.files.now) s None st

pub returns-in-Ok-Ok-clause-adds : goal.returns-in-Ok-Ok-clause-adds
returns-in-Ok-Ok-clause-adds g c = λ sum a so_far.
    let put = rw c.in-Ok-Ok.field-0-is at (c.in-Ok-Ok.ensures.adds a.state so_far.stands) in
    adding_more c.args.machine.now c.add.new.self (g.F.Files.seen c.args.files.now) (g.F.Files.seen c.add.new.files) c.args.generator.now sum a c.args.number _ c.from-more.result so_far
    c.in_ok-head.ensures.made put.stands put.free (c.from-more.ensures ∙ c.plies.ensures.plies)

pub returns-in-Ok-Err-clause-adds : goal.returns-in-Ok-Err-clause-adds
returns-in-Ok-Err-clause-adds g c = λ sum a so_far.
    let put = rw c.in-Ok-Err.field-0-is at (c.in-Ok-Err.ensures.adds a.state so_far.stands) in
    refused_here c.args.machine.now (g.F.Files.seen c.args.files.now) c.args.generator.now sum a c.args.number _ c.add.new.self (g.F.Files.seen c.add.new.files) c.in-Ok-Err.why so_far
    c.in_ok-head.ensures.made put.stands put.refused
