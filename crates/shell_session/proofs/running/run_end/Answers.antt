use Rattle.std.proofs.Common.{[], ◌∙◌, ap, sym, Some, Ok}
use Rattle.script_lines.specs.Clients.{Clients, said, tagged_task}
use Rattle.script_text.specs.declared.command.Command.TheVariants.{Quit}
use Rattle.shell_session.proofs.PriceLaws.{price_quit}
use Rattle.shell_session.proofs.RunningLaws.{one_added, quit_added, quit_cut}
use Rattle.shell_session.specs.Around.{around, meanings}
use Rattle.shell_session.specs.Running.{added}
use Rattle.shell_session.proofs.running.run_end.Goals as goal

pub returns-in-Ok-clause-done : goal.returns-in-Ok-clause-done
returns-in-Ok-clause-done g c = λ d first most lives.
    let kind = ap (λ (clients : Clients). clients.tagged) (sym lives.stands.clients) ∙ ap (λ (clients : Clients). clients.tagged) (sym c.clients.ensures.clients) ∙ sym c.is_tagged.ensures.tagged in
    quit_added c.run_line.new.desk (around (g.F.Files.seen c.run_line.new.files) first most (meanings (λ b. (goal.TreeView-dyn g (b.vtable, b.value)).rows b.value) (λ b. (goal.TreeView-dyn g (b.vtable, b.value)).told b.value) c.run_line.new.views)) d (added d.clients.tagged) (tagged_task (said (Some 0) (Ok Quit)) []) _ _
    (one_added d.clients.tagged (kind ∙ c.if-is_tagged.false)) (c.in-Ok.ensures.done d first most lives)

pub returns-in-Err-clause-stops : goal.returns-in-Err-clause-stops
returns-in-Err-clause-stops g c = λ d first most lives.
    let kind = ap (λ (clients : Clients). clients.tagged) (sym lives.stands.clients) ∙ ap (λ (clients : Clients). clients.tagged) (sym c.clients.ensures.clients) ∙ sym c.is_tagged.ensures.tagged in
    quit_cut (around (g.F.Files.seen c.run_line.new.files) first most (meanings (λ b. (goal.TreeView-dyn g (b.vtable, b.value)).rows b.value) (λ b. (goal.TreeView-dyn g (b.vtable, b.value)).told b.value) c.run_line.new.views)) d (added d.clients.tagged) (tagged_task (said (Some 0) (Ok Quit)) []) _ _ c.in-Err.status
    (one_added d.clients.tagged (kind ∙ c.if-is_tagged.false)) (c.in-Err.ensures.interrupted d first most lives)

pub returns-in-Ok-clause-asks : goal.returns-in-Ok-clause-asks
returns-in-Ok-clause-asks g c = λ d first most lives.
    let kind = ap (λ (clients : Clients). clients.tagged) (sym lives.stands.clients) ∙ ap (λ (clients : Clients). clients.tagged) (sym c.clients.ensures.clients) ∙ sym c.is_tagged.ensures.tagged in
    price_quit d (added d.clients.tagged) (tagged_task (said (Some 0) (Ok Quit)) []) _ _ (one_added d.clients.tagged (kind ∙ c.if-is_tagged.false)) (c.run_line.ensures.asks d first most lives)

pub returns-in-Err-clause-asks : goal.returns-in-Err-clause-asks
returns-in-Err-clause-asks g c = λ d first most lives.
    let kind = ap (λ (clients : Clients). clients.tagged) (sym lives.stands.clients) ∙ ap (λ (clients : Clients). clients.tagged) (sym c.clients.ensures.clients) ∙ sym c.is_tagged.ensures.tagged in
    price_quit d (added d.clients.tagged) (tagged_task (said (Some 0) (Ok Quit)) []) _ _ (one_added d.clients.tagged (kind ∙ c.if-is_tagged.false)) (c.run_line.ensures.asks d first most lives)
