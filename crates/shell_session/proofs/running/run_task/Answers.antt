use Rattle.std.proofs.Common.{◌+◌, arith, length, refl, sym, ap, ◌∙◌}
use Rattle.script_lines.specs.Clients.{Clients, is_end, tagged_task}
use Rattle.desk_commands.specs.Desk.{desks}
use Rattle.shell_session.proofs.BodyLaws.{line_finished, line_halts, line_on, out_finished, out_halts}
use Rattle.shell_session.proofs.KeptLaws.{kept_alone, kept_then}
use Rattle.desk_commands.specs.Views.{line_told}
use Rattle.shell_session.specs.Around.{around, meanings}
use Rattle.shell_session.proofs.running.run_task.Goals as goal

pub returns-in-Ok-Some-clause-done : goal.returns-in-Ok-Some-clause-done
returns-in-Ok-Some-clause-done g c = rw c.in-Ok-Some.field-0-is at c.in-Ok-Some.ensures.done

pub returns-in-Ok-clause-done : goal.returns-in-Ok-clause-done
returns-in-Ok-clause-done g c = λ d first most ahead stands told.
    let done = rw c.in-Ok-None.field-0-is at c.in-Ok-None.ensures.done in
    let out = done d first most ahead stands told in
    out_finished c.args.line c.in-Some.word.now d ahead c.args.reader.used c.run_body.new.desk c.run_end.new.desk (around (g.F.Files.seen c.run_body.new.files) first most (meanings (λ b. (goal.TreeView-dyn g (b.vtable, b.value)).rows b.value) (λ b. (goal.TreeView-dyn g (b.vtable, b.value)).told b.value) c.run_body.new.views)) (around (g.F.Files.seen c.run_end.new.files) first most (meanings (λ b. (goal.TreeView-dyn g (b.vtable, b.value)).rows b.value) (λ b. (goal.TreeView-dyn g (b.vtable, b.value)).told b.value) c.run_end.new.views)) (g.S.Source.left c.run_body.new.input)
    (g.K.Sink.taken c.args.out.now) (g.K.Sink.taken c.run_body.new.out) (g.K.Sink.taken c.run_end.new.out) (g.F.Files.asked c.args.files.now) (g.F.Files.asked c.run_body.new.files) (g.F.Files.asked c.run_end.new.files)
    (sym c.in-Some.ensures.word) out (c.in-Ok.ensures.done (desks.after d (tagged_task c.args.line out.body)) first (λ k. most k + line_told d (tagged_task c.args.line out.body) k) out.did.stands) (c.run_end.ensures.asks (desks.after d (tagged_task c.args.line out.body)) first (λ k. most k + line_told d (tagged_task c.args.line out.body) k) out.did.stands)

pub returns-in-Err-run_end-clause-halts : goal.returns-in-Err-run_end-clause-halts
returns-in-Err-run_end-clause-halts g c = λ d first most ahead stands told.
    let done = rw c.in-Ok-None.field-0-is at c.in-Ok-None.ensures.done in
    let out = done d first most ahead stands told in
    out_halts c.args.line c.in-Some.word.now d ahead c.args.reader.used c.run_body.new.desk (around (g.F.Files.seen c.run_body.new.files) first most (meanings (λ b. (goal.TreeView-dyn g (b.vtable, b.value)).rows b.value) (λ b. (goal.TreeView-dyn g (b.vtable, b.value)).told b.value) c.run_body.new.views)) (around (g.F.Files.seen c.run_end.new.files) first most (meanings (λ b. (goal.TreeView-dyn g (b.vtable, b.value)).rows b.value) (λ b. (goal.TreeView-dyn g (b.vtable, b.value)).told b.value) c.run_end.new.views)) (g.S.Source.left c.run_body.new.input)
    (g.K.Sink.taken c.args.out.now) (g.K.Sink.taken c.run_body.new.out) (g.K.Sink.taken c.run_end.new.out) (g.F.Files.asked c.args.files.now) (g.F.Files.asked c.run_body.new.files) (g.F.Files.asked c.run_end.new.files)
    c.in-Err-run_end.status (sym c.in-Some.ensures.word) out (c.in-Err-run_end.ensures.stops (desks.after d (tagged_task c.args.line out.body)) first (λ k. most k + line_told d (tagged_task c.args.line out.body) k) out.did.stands) (c.run_end.ensures.asks (desks.after d (tagged_task c.args.line out.body)) first (λ k. most k + line_told d (tagged_task c.args.line out.body) k) out.did.stands)

pub returns-in-Ok-clause-kept : goal.returns-in-Ok-clause-kept
returns-in-Ok-clause-kept g c =
    let b = g.S.Source.budget c.args.input.now + (c.args.reader.used + length c.args.reader.unread) in
    kept_then (λ _. refl) c.in-Ok-None.ensures.kept (kept_alone (g.S.Source.faults c.run_body.new.input) b (g.S.Source.budget c.run_body.new.input) c.in-Ok.ensures.kept) (omega arith)

pub returns-in-Err-run_end-clause-kept : goal.returns-in-Err-run_end-clause-kept
returns-in-Err-run_end-clause-kept g c =
    let b = g.S.Source.budget c.args.input.now + (c.args.reader.used + length c.args.reader.unread) in
    kept_then (λ _. refl) c.in-Ok-None.ensures.kept (kept_alone (g.S.Source.faults c.run_body.new.input) b (g.S.Source.budget c.run_body.new.input) c.in-Err-run_end.ensures.kept) (omega arith)

pub returns-in-Ok-true-clause-kept : goal.returns-in-Ok-true-clause-kept
returns-in-Ok-true-clause-kept g c =
    kept_alone (g.S.Source.faults c.args.input.now) (g.S.Source.budget c.args.input.now + (c.args.reader.used + length c.args.reader.unread)) (g.S.Source.budget c.args.input.now) c.in-Ok-true.ensures.kept

pub returns-in-Ok-false-clause-kept : goal.returns-in-Ok-false-clause-kept
returns-in-Ok-false-clause-kept g c =
    kept_alone (g.S.Source.faults c.args.input.now) (g.S.Source.budget c.args.input.now + (c.args.reader.used + length c.args.reader.unread)) (g.S.Source.budget c.args.input.now) c.in-Ok-false.ensures.kept

pub returns-in-Err-run_line-clause-kept : goal.returns-in-Err-run_line-clause-kept
returns-in-Err-run_line-clause-kept g c =
    kept_alone (g.S.Source.faults c.args.input.now) (g.S.Source.budget c.args.input.now + (c.args.reader.used + length c.args.reader.unread)) (g.S.Source.budget c.args.input.now) c.in-Err-run_line.ensures.kept

pub returns-in-Ok-true-clause-done : goal.returns-in-Ok-true-clause-done
returns-in-Ok-true-clause-done g c = λ d first most ahead stands told.
    line_finished c.args.line d ahead c.args.reader c.run_line.new.desk (around (g.F.Files.seen c.run_line.new.files) first most (meanings (λ b. (goal.TreeView-dyn g (b.vtable, b.value)).rows b.value) (λ b. (goal.TreeView-dyn g (b.vtable, b.value)).told b.value) c.run_line.new.views)) (g.S.Source.left c.args.input.now) _ _ _ _
    (ap (λ (clients : Clients). is_end clients c.args.line) (sym stands.stands.clients) ∙ (sym c.in-Ok-true.ensures.end ∙ c.in-Ok-true.field-0-test)) told c.requires.within c.requires.few (c.in-Ok-true.ensures.done d first most stands) (c.run_line.ensures.asks d first most stands)

pub returns-in-Ok-false-clause-done : goal.returns-in-Ok-false-clause-done
returns-in-Ok-false-clause-done g c = λ d first most ahead stands told.
    line_on c.args.line d ahead c.args.reader c.run_line.new.desk (around (g.F.Files.seen c.run_line.new.files) first most (meanings (λ b. (goal.TreeView-dyn g (b.vtable, b.value)).rows b.value) (λ b. (goal.TreeView-dyn g (b.vtable, b.value)).told b.value) c.run_line.new.views)) (g.S.Source.left c.args.input.now) _ _ _ _
    (ap (λ (clients : Clients). is_end clients c.args.line) (sym stands.stands.clients) ∙ (sym c.in-Ok-false.ensures.end ∙ c.in-Ok-false.field-0-test)) (sym c.in_default.ensures.word) told (c.in-Ok-false.ensures.done d first most stands) (c.run_line.ensures.asks d first most stands)

pub returns-in-Err-run_line-clause-halts : goal.returns-in-Err-run_line-clause-halts
returns-in-Err-run_line-clause-halts g c = λ d first most ahead stands told.
    line_halts c.args.line d ahead c.args.reader.used (around (g.F.Files.seen c.run_line.new.files) first most (meanings (λ b. (goal.TreeView-dyn g (b.vtable, b.value)).rows b.value) (λ b. (goal.TreeView-dyn g (b.vtable, b.value)).told b.value) c.run_line.new.views)) (g.S.Source.left c.args.input.now) _ _ _ _ c.in-Err-run_line.status
    (sym c.in_default.ensures.word) (c.in-Err-run_line.ensures.interrupted d first most stands) (c.run_line.ensures.asks d first most stands)
