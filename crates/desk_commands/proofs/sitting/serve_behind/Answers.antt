use Rattle.std.proofs.Common.{ℕ, List, Option, subst, sym}
use Rattle.std.specs.Prelude.{IfErr}
use Rattle.command_runs.specs.Endings.{Serves}
use Rattle.script_text.specs.Tasks.{task}
use Rattle.shell_commands.specs.Tasks.{BrokenTask, SettledTask, tasks}
use Rattle.shell_state.specs.Ends.{Unsaid}
use Rattle.shell_state.specs.Stands.{Stands}
use Rattle.command_runs.proofs.Texts.{said_begun}
use Rattle.command_runs.specs.Rendered.{Opening, no_text, said}
use Rattle.command_runs.specs.Waiting.{Waiting}
use Rattle.desk_commands.proofs.sitting.serve_behind.Goals as goal

pub returns-clause-serves : goal.returns-clause-serves
returns-clause-serves g c = λ s text st told right.
    let o : Opening = g.O.Opens.opening in
    let begun = said_begun o (g.K.Sink.taken c.open-sink.result.out.now) c.open-sink.result.page.now c.open-sink.ensures.told c.open-sink.ensures.nothing in
    let S : Option (List ℕ) → Option (List ℕ) → Type 0 = λ first last. Serves (tasks c.args.window) (Stands c.serve-result.new.machine (g.F.Files.seen c.serve-result.new.files)) (BrokenTask c.args.window) s (task c.args.order.now text) first last c.serve-result.result in
    let P : Option (List ℕ) → Type 0 = λ first. S first (said o (g.K.Sink.taken c.serve-result.new.out.out.now) c.serve-result.new.out.page.now) in
    let Q : _ → Type 0 = λ k. S (no_text o.told) (said o (g.K.Sink.taken k) c.serve-result.new.out.page.now) in
    let R : Waiting → Type 0 = λ p. S (no_text o.told) (said o (g.K.Sink.taken c.close.result.out.now) p) in
    subst R (sym c.close.ensures.page) (subst Q (sym c.close.ensures.out) (subst P begun (c.serve-result.ensures.serves s text st told right)))

pub returns-clause-settled : goal.returns-clause-settled
returns-clause-settled g c = λ s text st told.
    let o : Opening = g.O.Opens.opening in
    let begun = said_begun o (g.K.Sink.taken c.open-sink.result.out.now) c.open-sink.result.page.now c.open-sink.ensures.told c.open-sink.ensures.nothing in
    let S : Option (List ℕ) → Option (List ℕ) → Type 0 = λ first last. IfErr c.serve-result.result (λ _. SettledTask (g.F.Files.seen c.serve-result.new.files) c.args.window s (task c.args.order.now text) first last) in
    let P : Option (List ℕ) → Type 0 = λ first. S first (said o (g.K.Sink.taken c.serve-result.new.out.out.now) c.serve-result.new.out.page.now) in
    let Q : _ → Type 0 = λ k. S (no_text o.told) (said o (g.K.Sink.taken k) c.serve-result.new.out.page.now) in
    let R : Waiting → Type 0 = λ p. S (no_text o.told) (said o (g.K.Sink.taken c.close.result.out.now) p) in
    subst R (sym c.close.ensures.page) (subst Q (sym c.close.ensures.out) (subst P begun (c.serve-result.ensures.settled s text st told)))

pub returns-clause-unsaid : goal.returns-clause-unsaid
returns-clause-unsaid g c = λ late.
    let o : Opening = g.O.Opens.opening in
    let begun = said_begun o (g.K.Sink.taken c.open-sink.result.out.now) c.open-sink.result.page.now c.open-sink.ensures.told c.open-sink.ensures.nothing in
    let S : Option (List ℕ) → Option (List ℕ) → Type 0 = λ first last. IfErr c.serve-result.result (λ e. Unsaid e first last) in
    let P : Option (List ℕ) → Type 0 = λ first. S first (said o (g.K.Sink.taken c.serve-result.new.out.out.now) c.serve-result.new.out.page.now) in
    let Q : _ → Type 0 = λ k. S (no_text o.told) (said o (g.K.Sink.taken k) c.serve-result.new.out.page.now) in
    let R : Waiting → Type 0 = λ p. S (no_text o.told) (said o (g.K.Sink.taken c.close.result.out.now) p) in
    subst R (sym c.close.ensures.page) (subst Q (sym c.close.ensures.out) (subst P begun (c.serve-result.ensures.unsaid late)))
