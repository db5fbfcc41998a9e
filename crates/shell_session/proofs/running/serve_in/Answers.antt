use Rattle.std.proofs.Common.{ap, ◌∙◌}
use Rattle.script_lines.specs.Standing.{left_of}
use Rattle.script_lines.specs.Clients.{tagged_task}
use Rattle.shell_session.proofs.ViewLaws.{left_by, right_out, serves_alive, whatever_error}
use Rattle.shell_session.proofs.running.serve_in.Goals as goal

pub returns-clause-serves : goal.returns-clause-serves
returns-clause-serves g c = λ d first most text lives told.
    let right = right_out (λ b. (goal.TreeView-dyn g (b.vtable, b.value)).rows b.value) (λ b. (goal.TreeView-dyn g (b.vtable, b.value)).told b.value) d c.args.views.now lives.views.right in
    let body = ap (λ p. left_of p (g.S.Source.left c.new-body.result.input.now)) c.new-body.ensures.stands
    ∙ ap (λ i. left_of c.args.place.now (g.S.Source.left i)) c.new-body.ensures.source ∙ told in
    serves_alive (λ b. (goal.TreeView-dyn g (b.vtable, b.value)).rows b.value) (λ b. (goal.TreeView-dyn g (b.vtable, b.value)).told b.value) d (tagged_task c.args.line.now text) c.args.desk.now c.serve.new.desk (g.F.Files.seen c.args.files.now) (g.F.Files.seen c.serve.new.files) first most c.args.views.now c.serve.new.views _ _ c.serve.result lives
    (c.serve.ensures.serves d text lives.stands body right) (c.serve.ensures.views d text lives.stands body right) (c.serve.ensures.left d text lives.stands body right)

pub returns-clause-left : goal.returns-clause-left
returns-clause-left g c = λ d first most text lives told.
    let right = right_out (λ b. (goal.TreeView-dyn g (b.vtable, b.value)).rows b.value) (λ b. (goal.TreeView-dyn g (b.vtable, b.value)).told b.value) d c.args.views.now lives.views.right in
    let body = ap (λ p. left_of p (g.S.Source.left c.new-body.result.input.now)) c.new-body.ensures.stands
    ∙ ap (λ i. left_of c.args.place.now (g.S.Source.left i)) c.new-body.ensures.source ∙ told in
    whatever_error c.serve.result _
    (left_by (λ b. (goal.TreeView-dyn g (b.vtable, b.value)).rows b.value) (λ b. (goal.TreeView-dyn g (b.vtable, b.value)).told b.value) d (tagged_task c.args.line.now text) c.args.desk.now (g.F.Files.seen c.args.files.now) (g.F.Files.seen c.serve.new.files) first most c.args.views.now c.serve.new.views lives
    (c.serve.ensures.left d text lives.stands body right))

pub returns-clause-carries : goal.returns-clause-carries
returns-clause-carries g c = λ d first most text lives told.
    let right = right_out (λ b. (goal.TreeView-dyn g (b.vtable, b.value)).rows b.value) (λ b. (goal.TreeView-dyn g (b.vtable, b.value)).told b.value) d c.args.views.now lives.views.right in
    let body = ap (λ p. left_of p (g.S.Source.left c.new-body.result.input.now)) c.new-body.ensures.stands
    ∙ ap (λ i. left_of c.args.place.now (g.S.Source.left i)) c.new-body.ensures.source ∙ told in
    c.serve.ensures.carries d text lives.stands body right
