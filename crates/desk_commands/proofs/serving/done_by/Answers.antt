use Rattle.std.proofs.Common.{◌≡◌, [], OnOk, ap, codes, subst, sym, ◌∙◌}
use Rattle.script_lines.specs.Clients.{Clients, has_ended}
use Rattle.shell_state.proofs.CarryLaws.{if_err}
use Rattle.shell_state.proofs.Served.{on_ok}
use Rattle.desk_commands.specs.Desk.{lines_to, unless_nothing}
use Rattle.desk_commands.specs.Standing.{DeskHolding, DeskSound, DeskStands, seats_of}
use Rattle.base_files.specs.Told.{adds}
use Rattle.command_runs.specs.Endings.{Halted}
use Rattle.desk_commands.proofs.LineLaws.{both_shown, causes_alone, idle_carries, idle_settled, idle_shown, idle_serves, is_late, late_text, speaks_asks, speaks_carries, speaks_left, speaks_of, speaks_serves, speaks_settled}
use Rattle.desk_commands.proofs.serving.done_by.Goals as goal

pub returns-then-has_ended-clause-serves : goal.returns-then-has_ended-clause-serves
returns-then-has_ended-clause-serves g c = λ d text st told right.
    let line = c.args.line.now in
    let says = c.requires.says in
    let seen = g.F.Files.seen c.args.files.now in
    let clients = ap (λ (h : DeskHolding). h.clients) c.desk.view_is ∙ st.clients in
    let held : DeskHolding = record { holding = c.desk.inside.machine; seats = seats_of c.desk.inside.seats.items; clients = c.desk.inside.clients } in
    let here = subst (λ (h : DeskHolding). DeskStands h (g.F.Files.seen c.args.files.now) d) (sym c.desk.view_is) st in
    let ended = ap (λ (cl : Clients). has_ended cl c.args.client) (sym clients) ∙ (sym c.has_ended.ensures.ended ∙ c.if-has_ended.true) in
    idle_serves c.say_late.result held seen d line text (lines_to d.clients c.args.client (unless_nothing (codes "client ended") line.order)) _ _ (is_late d line c.args.client says ended) here (late_text d line c.args.client text says ended)
    (subst (λ (cl : Clients). OnOk c.say_late.result (g.K.Sink.taken c.say_late.new.out ≡ adds (g.K.Sink.taken c.args.out.now) (lines_to cl c.args.client (unless_nothing (codes "client ended") line.order)))) clients c.say_late.ensures.written)
    (subst (λ (cl : Clients). Halted [] (lines_to cl c.args.client (unless_nothing (codes "client ended") line.order)) (g.K.Sink.taken c.args.out.now) (g.K.Sink.taken c.say_late.new.out)) clients c.say_late.ensures.halted) c.say_late.ensures.output

pub returns-then-has_ended-clause-views : goal.returns-then-has_ended-clause-views
returns-then-has_ended-clause-views g c = λ d text st told right.
    let line = c.args.line.now in
    let says = c.requires.says in
    let clients = ap (λ (h : DeskHolding). h.clients) c.desk.view_is ∙ st.clients in
    let ended = ap (λ (cl : Clients). has_ended cl c.args.client) (sym clients) ∙ (sym c.has_ended.ensures.ended ∙ c.if-has_ended.true) in
    on_ok _ c.say_late.result (idle_shown (λ b. (goal.TreeView-dyn g (b.vtable, b.value)).rows b.value) (λ b. (goal.TreeView-dyn g (b.vtable, b.value)).told b.value) d line text c.args.views.now (is_late d line c.args.client says ended) right)

pub returns-then-has_ended-clause-carries : goal.returns-then-has_ended-clause-carries
returns-then-has_ended-clause-carries g c = λ d text st told right.
    let line = c.args.line.now in
    let says = c.requires.says in
    let seen = g.F.Files.seen c.args.files.now in
    let clients = ap (λ (h : DeskHolding). h.clients) c.desk.view_is ∙ st.clients in
    let held : DeskHolding = record { holding = c.desk.inside.machine; seats = seats_of c.desk.inside.seats.items; clients = c.desk.inside.clients } in
    let here = subst (λ (h : DeskHolding). DeskStands h (g.F.Files.seen c.args.files.now) d) (sym c.desk.view_is) st in
    let ended = ap (λ (cl : Clients). has_ended cl c.args.client) (sym clients) ∙ (sym c.has_ended.ensures.ended ∙ c.if-has_ended.true) in
    if_err c.say_late.result _ (idle_carries held seen d line (is_late d line c.args.client says ended) here)

pub returns-then-has_ended-clause-settled : goal.returns-then-has_ended-clause-settled
returns-then-has_ended-clause-settled g c = λ d text st told right.
    let line = c.args.line.now in
    let says = c.requires.says in
    let seen = g.F.Files.seen c.args.files.now in
    let clients = ap (λ (h : DeskHolding). h.clients) c.desk.view_is ∙ st.clients in
    let ended = ap (λ (cl : Clients). has_ended cl c.args.client) (sym clients) ∙ (sym c.has_ended.ensures.ended ∙ c.if-has_ended.true) in
    if_err c.say_late.result _ (idle_settled seen d line text _ _ (is_late d line c.args.client says ended))

pub returns-then-has_ended-clause-causes : goal.returns-then-has_ended-clause-causes
returns-then-has_ended-clause-causes g c =
    causes_alone c.say_late.result _ _ _ _ c.say_late.ensures.causes c.say_late.ensures.output

pub returns-then-has_ended-clause-sound : goal.returns-then-has_ended-clause-sound
returns-then-has_ended-clause-sound g c = on_ok _ c.say_late.result (subst (λ (h : DeskHolding). DeskSound h (g.F.Files.seen c.args.files.now)) (sym c.desk.view_is) c.requires.sound)

pub returns-else-has_ended-clause-serves : goal.returns-else-has_ended-clause-serves
returns-else-has_ended-clause-serves g c = λ d text st told right.
    let line = c.args.line.now in
    let says = c.requires.says in
    let clients = ap (λ (h : DeskHolding). h.clients) c.desk.view_is ∙ st.clients in
    let speaks = speaks_of d line c.args.client says (ap (λ (cl : Clients). has_ended cl c.args.client) (sym clients) ∙ (sym c.has_ended.ensures.ended ∙ c.if-has_ended.false)) in
    speaks_serves c.serve_by.result c.serve_by.new.desk (g.F.Files.seen c.serve_by.new.files) d line c.args.client text _ _ speaks (c.serve_by.ensures.stands d text st told right) (c.serve_by.ensures.written d text st told right) (c.serve_by.ensures.halted d text st told right) (c.serve_by.ensures.broken d text st told right)

pub returns-else-has_ended-clause-views : goal.returns-else-has_ended-clause-views
returns-else-has_ended-clause-views g c = λ d text st told right.
    let line = c.args.line.now in
    let says = c.requires.says in
    let clients = ap (λ (h : DeskHolding). h.clients) c.desk.view_is ∙ st.clients in
    let speaks = speaks_of d line c.args.client says (ap (λ (cl : Clients). has_ended cl c.args.client) (sym clients) ∙ (sym c.has_ended.ensures.ended ∙ c.if-has_ended.false)) in
    both_shown c.serve_by.result (λ b. (goal.TreeView-dyn g (b.vtable, b.value)).rows b.value) (λ b. (goal.TreeView-dyn g (b.vtable, b.value)).told b.value) d line c.args.client text c.args.views.now c.serve_by.new.views speaks (c.serve_by.ensures.right d text st told right) (c.serve_by.ensures.counted d text st told right)

pub returns-else-has_ended-clause-left : goal.returns-else-has_ended-clause-left
returns-else-has_ended-clause-left g c = λ d text st told right.
    let line = c.args.line.now in
    let says = c.requires.says in
    let clients = ap (λ (h : DeskHolding). h.clients) c.desk.view_is ∙ st.clients in
    let speaks = speaks_of d line c.args.client says (ap (λ (cl : Clients). has_ended cl c.args.client) (sym clients) ∙ (sym c.has_ended.ensures.ended ∙ c.if-has_ended.false)) in
    speaks_left d line c.args.client c.args.views.now c.serve_by.new.views speaks (c.serve_by.ensures.left d text st told right)

pub returns-else-has_ended-clause-carries : goal.returns-else-has_ended-clause-carries
returns-else-has_ended-clause-carries g c = λ d text st told right.
    let line = c.args.line.now in
    let says = c.requires.says in
    let clients = ap (λ (h : DeskHolding). h.clients) c.desk.view_is ∙ st.clients in
    let speaks = speaks_of d line c.args.client says (ap (λ (cl : Clients). has_ended cl c.args.client) (sym clients) ∙ (sym c.has_ended.ensures.ended ∙ c.if-has_ended.false)) in
    if_err c.serve_by.result _ (speaks_carries (g.F.Files.seen c.serve_by.new.files) d line c.args.client speaks (c.serve_by.ensures.carries d text st told right))

pub returns-else-has_ended-clause-settled : goal.returns-else-has_ended-clause-settled
returns-else-has_ended-clause-settled g c = λ d text st told right.
    let line = c.args.line.now in
    let says = c.requires.says in
    let clients = ap (λ (h : DeskHolding). h.clients) c.desk.view_is ∙ st.clients in
    let speaks = speaks_of d line c.args.client says (ap (λ (cl : Clients). has_ended cl c.args.client) (sym clients) ∙ (sym c.has_ended.ensures.ended ∙ c.if-has_ended.false)) in
    if_err c.serve_by.result _ (speaks_settled (g.F.Files.seen c.serve_by.new.files) d line c.args.client text _ _ speaks (c.serve_by.ensures.settled d text st told right))

pub returns-else-has_ended-clause-asks : goal.returns-else-has_ended-clause-asks
returns-else-has_ended-clause-asks g c = λ d st.
    let line = c.args.line.now in
    let says = c.requires.says in
    let clients = ap (λ (h : DeskHolding). h.clients) c.desk.view_is ∙ st.clients in
    let speaks = speaks_of d line c.args.client says (ap (λ (cl : Clients). has_ended cl c.args.client) (sym clients) ∙ (sym c.has_ended.ensures.ended ∙ c.if-has_ended.false)) in
    speaks_asks d line c.args.client _ _ speaks (c.serve_by.ensures.asks d st)
