-- What is known of a line of a user that was served. Only private functions cite these records: the public call says each of their fields by
-- itself.
use Rattle.std.specs.Prelude.{◌≡◌, ◌≤◌, ◌+◌, ℕ, List, [], false, Option, Result, Ok, IfErr, OnOk, length}
use Rattle.base_files.specs.Seen.{Seen}
use Rattle.command_runs.specs.Counts.{Causes, Counts}
use Rattle.command_runs.specs.Endings.{NoneLost, Serves}
use Rattle.script_text.specs.Tasks.{Order, Task, task}
use Rattle.script_text.specs.declared.command.Command.TheVariants.{Export}
use Rattle.shell_commands.specs.Tasks.{BrokenTask, SettledTask, order_left, order_price, order_work, order_writes, tasks, writes_early}
use Rattle.shell_commands.specs.Watching.{ViewsDone, touches}
use Rattle.shell_state.specs.Carrying.{StillCarry}
use Rattle.shell_state.specs.Ends.{Unsaid}
use Rattle.shell_state.specs.Stands.{Asks, Holding, Sound, Stands, WhyHalt}
use Rattle.shell_state.specs.State.{State}
use Rattle.shell_state.specs.declared.halt.Halt.{Halt}
use Rattle.text_commands.specs.GameTexts.{ExportCut}
use Rattle.tree_live.specs.Views.{Told}
use Rattle.tree_rows.specs.declared.row.Row.{Row}
use Rattle.view_commands.specs.Views.{AreLeft, all_slots, is_own}
use Rattle.view_commands.specs.declared.window.Window.{Window}

-- What the outside tells at a moment: what the files show, how many bytes of games were asked, what was written, and the faults so far.
pub record Outside : Type 0 where
  pub seen : Seen
  pub asked : ℕ
  pub taken : Option (List ℕ)
  pub counts : Counts

abbrev pub outside : Seen → ℕ → Option (List ℕ) → Counts → Outside
outside seen asked taken counts = record { seen = seen; asked = asked; taken = taken; counts = counts }

-- Where the files and the body are told and the user's views are right: the state behind the task stands and its text is written, or a front
-- part of it, and the views are right beside that state.
pub record Turn {A B : Type 0} (rows : B → List Row) (told : B → Told) (w : Window) (s : State) (t : Task) (machine : Holding) (seen : Seen) (taken taken' : Option (List ℕ)) (shown shown' : List (Option B)) (result : Result A Halt) : Type 0 where
  pub serves : Serves (tasks w) (Stands machine seen) (BrokenTask w) s t taken taken' result
  pub views : OnOk result (ViewsDone rows told w s t shown shown')
  pub left : AreLeft (touches w s t.order) shown shown'

-- Always: what it leaves, what it asks, and why it ends early.
pub record Kept {A B : Type 0} (w : Window) (order : Order) (machine machine' : Holding) (before after : Outside) (shown shown' : List (Option B)) (result : Result A Halt) : Type 0 where
  pub others : AreLeft (is_own w) shown shown'
  pub number : length shown' ≡ length shown
  pub sound : OnOk result (Sound machine' after.seen)
  pub whole : (s : State) → Stands machine before.seen s → order ≡ Ok Export → IfErr result (λ e. ExportCut s.seat.filter s.shared.base.games e before.taken after.taken)
  pub carries : (s : State) → Stands machine before.seen s → StillCarry after.seen s (order_left order)
  pub settled : (s : State) (text : List ℕ) → Stands machine before.seen s → IfErr result (λ _. SettledTask after.seen w s (task order text) before.taken after.taken)
  pub unsaid : writes_early order ≡ false → IfErr result (λ e. Unsaid e before.taken after.taken)
  pub unchanged : order_writes order ≡ false → after.seen ≡ before.seen
  pub choices : after.seen.choices ≡ before.seen.choices
  pub asks : Asks machine (order_work all_slots order []) before.asked after.asked
  pub asks_told : (s : State) → Stands machine before.seen s → after.asked ≤ before.asked + order_price s order
  pub none_lost : NoneLost before.taken after.taken
  pub causes : Causes WhyHalt result before.counts after.counts

-- The views of a part that shows nothing.
abbrev pub no_views : List (Option ℕ)
no_views = []
