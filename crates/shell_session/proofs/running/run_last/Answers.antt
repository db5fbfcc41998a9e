use Rattle.std.proofs.Common.{◌+◌, [], ◌∙◌, sym, arith, refl}
use Rattle.desk_commands.specs.Desk.{desks}
use Rattle.desk_commands.specs.Views.{line_told}
use Rattle.script_lines.specs.Clients.{tagged_task}
use Rattle.shell_session.proofs.KeptLaws.{kept_then}
use Rattle.shell_session.proofs.PriceLaws.{price_both, price_front, price_quit}
use Rattle.shell_session.proofs.RunningLaws.{at_front, at_other, at_quit, end_did, end_stops, if_err, last_stops, on_ok, quit_added}
use Rattle.shell_session.specs.Around.{around, meanings}
use Rattle.shell_session.specs.Running.{added, last_tasks}
use Rattle.shell_session.proofs.running.run_last.Goals as goal

pub returns-in-Err-clause-stops : goal.returns-in-Err-clause-stops
returns-in-Err-clause-stops g c = λ d first most lives. last_stops _ d d.clients.tagged (tagged_task c.args.line []) _ _ c.in-Err.status (c.in-Err.ensures.interrupted d first most lives)

pub returns-in-Err-clause-asks : goal.returns-in-Err-clause-asks
returns-in-Err-clause-asks g c = λ d first most lives.
    let all = at_front d.clients.tagged (tagged_task c.args.line []) in
    price_front d (last_tasks d c.args.line) all.0 c.args.line [] _ _ all.1 (c.run_line.ensures.asks d first most lives)

pub returns-then-quit-clause-done : goal.returns-then-quit-clause-done
returns-then-quit-clause-done g c = λ d first most lives.
    let last = tagged_task c.args.line [] in
    let here = around (g.F.Files.seen c.run_line.new.files) first most (meanings (λ b. (goal.TreeView-dyn g (b.vtable, b.value)).rows b.value) (λ b. (goal.TreeView-dyn g (b.vtable, b.value)).told b.value) c.run_line.new.views) in
    quit_added c.run_line.new.desk here d (last_tasks d c.args.line) last _ _ (at_quit d.clients.tagged last (sym c.is_quit-quit.ensures.quit ∙ c.if-quit.true)) (c.in-Ok.ensures.done d first most lives)

pub returns-then-quit-clause-asks : goal.returns-then-quit-clause-asks
returns-then-quit-clause-asks g c = λ d first most lives.
    let last = tagged_task c.args.line [] in
    price_quit d (last_tasks d c.args.line) last _ _ (at_quit d.clients.tagged last (sym c.is_quit-quit.ensures.quit ∙ c.if-quit.true)) (c.run_line.ensures.asks d first most lives)

pub returns-clause-done : goal.returns-clause-done
returns-clause-done g c =
    on_ok c.run_end.result _ _ (λ did d first most lives.
    let last = tagged_task c.args.line [] in
    let here = around (g.F.Files.seen c.run_end.new.files) first most (meanings (λ b. (goal.TreeView-dyn g (b.vtable, b.value)).rows b.value) (λ b. (goal.TreeView-dyn g (b.vtable, b.value)).told b.value) c.run_end.new.views) in
    let one = c.in-Ok.ensures.done d first most lives in
    end_did c.run_end.new.desk here d d.clients.tagged last _ _ _ (sym c.is_quit-quit.ensures.quit ∙ c.if-quit.false) one.written
    (did (desks.after d last) first (λ k. most k + line_told d last k) one.stands))
    c.run_end.ensures.done

pub returns-clause-stops : goal.returns-clause-stops
returns-clause-stops g c =
    if_err c.run_end.result _ _ (λ status cut d first most lives.
    let last = tagged_task c.args.line [] in
    let here = around (g.F.Files.seen c.run_end.new.files) first most (meanings (λ b. (goal.TreeView-dyn g (b.vtable, b.value)).rows b.value) (λ b. (goal.TreeView-dyn g (b.vtable, b.value)).told b.value) c.run_end.new.views) in
    let one = c.in-Ok.ensures.done d first most lives in
    end_stops _ here (line_told d last) d d.clients.tagged last _ _ _ status (sym c.is_quit-quit.ensures.quit ∙ c.if-quit.false) one
    (cut (desks.after d last) first (λ k. most k + line_told d last k) one.stands))
    c.run_end.ensures.stops

pub returns-clause-kept : goal.returns-clause-kept
returns-clause-kept g c = kept_then (λ _. refl) c.in-Ok.ensures.kept c.run_end.ensures.kept (omega arith)

pub returns-clause-asks : goal.returns-clause-asks
returns-clause-asks g c = λ d first most lives.
    let last = tagged_task c.args.line [] in
    let one = c.in-Ok.ensures.done d first most lives in
    price_both d (last_tasks d c.args.line) (added d.clients.tagged) last _ _ _ (at_other d.clients.tagged last (sym c.is_quit-quit.ensures.quit ∙ c.if-quit.false)) (c.run_line.ensures.asks d first most lives)
    (c.run_end.ensures.asks (desks.after d last) first (λ k. most k + line_told d last k) one.stands)
