use Rattle.std.proofs.Common.{codes}
use Rattle.shell_state.proofs.CarryLaws.{if_err}
use Rattle.shell_state.proofs.Served.{on_ok}
use Rattle.desk_commands.specs.Desk.{unless_nothing}
use Rattle.desk_commands.proofs.LineLaws.{causes_alone, idle_carries, idle_settled, idle_shown, idle_serves, no_client, none_text}
use Rattle.desk_commands.proofs.serving.done.Goals as goal

pub returns-in-None-clause-serves : goal.returns-in-None-clause-serves
returns-in-None-clause-serves g c = λ d text st told right.
    let line = c.args.line.now in
    let none = c.in-None.is in
    let seen = g.F.Files.seen c.args.files.now in
    idle_serves c.say_nobody.result c.args.desk.now seen d line text (unless_nothing (codes "no client") line.order) _ _ (no_client d line none) st (none_text d line text none) c.say_nobody.ensures.written c.say_nobody.ensures.halted c.say_nobody.ensures.output

pub returns-in-None-clause-views : goal.returns-in-None-clause-views
returns-in-None-clause-views g c = λ d text st told right.
    let line = c.args.line.now in
    let none = c.in-None.is in
    on_ok _ c.say_nobody.result (idle_shown (λ b. (goal.TreeView-dyn g (b.vtable, b.value)).rows b.value) (λ b. (goal.TreeView-dyn g (b.vtable, b.value)).told b.value) d line text c.args.views.now (no_client d line none) right)

pub returns-in-None-clause-carries : goal.returns-in-None-clause-carries
returns-in-None-clause-carries g c = λ d text st told right.
    let line = c.args.line.now in
    let none = c.in-None.is in
    let seen = g.F.Files.seen c.args.files.now in
    if_err c.say_nobody.result _ (idle_carries c.args.desk.now seen d line (no_client d line none) st)

pub returns-in-None-clause-settled : goal.returns-in-None-clause-settled
returns-in-None-clause-settled g c = λ d text st told right.
    let line = c.args.line.now in
    let none = c.in-None.is in
    let seen = g.F.Files.seen c.args.files.now in
    if_err c.say_nobody.result _ (idle_settled seen d line text _ _ (no_client d line none))

pub returns-in-None-clause-causes : goal.returns-in-None-clause-causes
returns-in-None-clause-causes g c =
    causes_alone c.say_nobody.result _ _ _ _ c.say_nobody.ensures.causes c.say_nobody.ensures.output
