use Rattle.std.proofs.Common.{◌≡◌, ◌+◌, ℕ, List, None, Some, length, true}
use Rattle.command_runs.specs.Counts.{counts}
use Rattle.command_runs.specs.Endings.{NoneLost}
use Rattle.desk_commands.specs.Desk.{Desk}
use Rattle.shell_session.specs.Around.{Lives, Views, around, meanings}
use Rattle.shell_session.specs.Running.{Kept, Ran}
use Rattle.shell_session.proofs.running.run_script.Given as goal

-- The lines so far were run, and what was asked for them is paid; each byte that was read is counted or unread; no fault is forgotten.
abbrev pub invariant-lines : goal.invariant-lines
invariant-lines g l = record {
  ran : (d : Desk) (first : Views) (most : ℕ → ℕ) (script : List ℕ) → Lives l.fn.desk (around (g.F.Files.seen l.fn.files) first most (meanings (λ b. (goal.TreeView-dyn g (b.vtable, b.value)).rows b.value) (λ b. (goal.TreeView-dyn g (b.vtable, b.value)).told b.value) l.fn.views)) d → g.S.Source.left l.fn.input ≡ Some script
      → Ran d script (g.K.Sink.taken l.fn.out) l.desk (around (g.F.Files.seen l.files) first most (meanings (λ b. (goal.TreeView-dyn g (b.vtable, b.value)).rows b.value) (λ b. (goal.TreeView-dyn g (b.vtable, b.value)).told b.value) l.views)) l.reader (g.S.Source.left l.input) (g.K.Sink.taken l.out) (g.F.Files.asked l.fn.files) (g.F.Files.asked l.files);
  untaken : l.reader.used ≡ 0 → g.F.Files.seen l.files ≡ g.F.Files.seen l.fn.files;
  kept : Kept true l.desk (g.F.Files.seen l.fn.files) (g.F.Files.seen l.files)
      (counts (g.F.Files.faults l.fn.files) (g.S.Source.faults l.fn.input) (g.K.Sink.faults l.fn.out)) (counts (g.F.Files.faults l.files) (g.S.Source.faults l.input) (g.K.Sink.faults l.out))
      (g.S.Source.budget l.fn.input) (g.S.Source.budget l.input) None;
  none_lost : NoneLost (g.K.Sink.taken l.fn.out) (g.K.Sink.taken l.out);
  sum : g.S.Source.budget l.input + (l.reader.used + length l.reader.unread) ≡ g.S.Source.budget l.fn.input;
}

-- Each line is paid from the budget.
abbrev pub decreases-lines : goal.decreases-lines
decreases-lines g l = g.S.Source.budget l.input + length l.reader.unread
