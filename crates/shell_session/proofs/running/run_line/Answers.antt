use Rattle.std.proofs.Common.{[], refl, sym, subst, Some}
use Rattle.command_runs.specs.Counts.{counts}
use Rattle.script_lines.specs.Clients.{tagged_task}
use Rattle.shell_commands.specs.Tasks.{order_writes}
use Rattle.shell_session.specs.Running.{Interrupted, Kept}
use Rattle.session_status.specs.declared.status.Status.{Status}
use Rattle.shell_session.proofs.KeptLaws.{kept_halt}
use Rattle.shell_session.proofs.RunningLaws.{interrupted}
use Rattle.shell_session.proofs.ViewLaws.{left_by, lives_behind, right_out}
use Rattle.shell_session.specs.Around.{around, meanings}
use Rattle.shell_session.proofs.running.run_line.Goals as goal

pub returns-in-Ok-clause-done : goal.returns-in-Ok-clause-done
returns-in-Ok-clause-done g c = λ d first most lives.
    let right = right_out (λ b. (goal.TreeView-dyn g (b.vtable, b.value)).rows b.value) (λ b. (goal.TreeView-dyn g (b.vtable, b.value)).told b.value) d c.args.views.now lives.views.right in
    lives_behind (λ b. (goal.TreeView-dyn g (b.vtable, b.value)).rows b.value) (λ b. (goal.TreeView-dyn g (b.vtable, b.value)).told b.value) d (tagged_task c.args.line []) c.args.desk.now c.serve.new.desk (g.F.Files.seen c.args.files.now) (g.F.Files.seen c.serve.new.files) first most c.args.views.now c.serve.new.views _ _ _ lives
    (c.in-Ok.ensures.serves d [] lives.stands refl right) (c.in-Ok.ensures.views d [] lives.stands refl right) (c.serve.ensures.left d [] lives.stands refl right)

pub returns-in-Ok-clause-kept : goal.returns-in-Ok-clause-kept
returns-in-Ok-clause-kept g c = record {
  sound = c.in-Ok.ensures.sound;
  unchanged = c.serve.ensures.unchanged;
  choices = c.serve.ensures.choices;
  counts = c.serve.ensures.causes.none_fell;
  ends = tt;
  why = tt;
  too_long = tt;
}

pub returns-clause-interrupted : goal.returns-clause-interrupted
returns-clause-interrupted g c = λ d first most lives.
    let here = around (g.F.Files.seen c.serve.new.files) first most (meanings (λ b. (goal.TreeView-dyn g (b.vtable, b.value)).rows b.value) (λ b. (goal.TreeView-dyn g (b.vtable, b.value)).told b.value) c.serve.new.views) in
    let right = right_out (λ b. (goal.TreeView-dyn g (b.vtable, b.value)).rows b.value) (λ b. (goal.TreeView-dyn g (b.vtable, b.value)).told b.value) d c.args.views.now lives.views.right in
    let P : Status → Type 0 = λ status. Interrupted status here d (tagged_task c.args.line []) (g.K.Sink.taken c.args.out.now) (g.K.Sink.taken c.serve.new.out) in
    subst P (sym c.from.ensures)
    (interrupted c.in-Err.halt here d (tagged_task c.args.line []) _ _ c.requires.alone (c.in-Err.ensures.serves d [] lives.stands refl right)
    (record {
      carries = c.in-Err.ensures.carries d [] lives.stands refl right;
      views = left_by (λ b. (goal.TreeView-dyn g (b.vtable, b.value)).rows b.value) (λ b. (goal.TreeView-dyn g (b.vtable, b.value)).told b.value) d (tagged_task c.args.line []) c.args.desk.now (g.F.Files.seen c.args.files.now) (g.F.Files.seen c.serve.new.files) first most c.args.views.now c.serve.new.views lives (c.serve.ensures.left d [] lives.stands refl right);
    })
    (c.in-Err.ensures.settled d [] lives.stands refl right))

pub returns-clause-kept : goal.returns-clause-kept
returns-clause-kept g c =
    let P : Status → Type 0 = λ status. Kept (order_writes c.args.line.order) c.serve.new.desk (g.F.Files.seen c.args.files.now) (g.F.Files.seen c.serve.new.files)
    (counts (g.F.Files.faults c.args.files.now) 0 (g.K.Sink.faults c.args.out.now)) (counts (g.F.Files.faults c.serve.new.files) 0 (g.K.Sink.faults c.serve.new.out)) 0 0 (Some status) in
    subst P (sym c.from.ensures) (kept_halt c.in-Err.halt c.serve.ensures.unchanged c.serve.ensures.choices c.serve.ensures.causes.none_fell c.in-Err.ensures.causes.why)
