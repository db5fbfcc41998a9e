-- What a task of a script owes the views of the slots. This project's own.
use Rattle.std.specs.Prelude.{ℕ, ◌+◌, ◌==◌, ◌||◌, ◌&&◌, nat_lt, if◌then◌else◌, Bool, false, List, Option, Ok, length}
use Rattle.script_text.specs.Tasks.{Order, Task}
use Rattle.script_text.specs.declared.command.Command.TheVariants.{Watch}
use Rattle.shell_commands.specs.Tasks.{tasks}
use Rattle.shell_state.specs.Slots.{slot_at}
use Rattle.shell_state.specs.State.{State}
use Rattle.tree_rows.specs.declared.row.Row.{Row}
use Rattle.view_commands.specs.Views.{AreRight, AreToldAtMost, changes_of, is_own, is_shown, slot_hits}
use Rattle.view_commands.specs.declared.window.Window.{Window}
use Rattle.tree_live.specs.Views.{Told}

-- Whether a line of a user watches a slot, which is one of the user's own.
abbrev pub watches : Window → Order → ℕ → Bool
watches w (Ok (Watch slot board side)) i = nat_lt slot w.count && (w.first + slot == i)
watches w order i = false

-- The slots whose views a user's line may change in a state: the user's own that show trees, and the one that it
-- watches.
abbrev pub touches : Window → State → Order → ℕ → Bool
touches w s order i = (is_own w i && is_shown (slot_at s.slots i)) || watches w order i

-- How many changes a user's task tells the view of a slot at most. A slot that is not the user's own is told none. A
-- slot that the line watches is told one more than hits are shown then. Any other is told one for each row that differs
-- behind the task.
abbrev pub most_told : Window → State → Task → ℕ → ℕ
most_told w s t i =
    if is_own w i
    then (if watches w t.order i then 1 + length (slot_hits ((tasks w).after s t) (slot_at ((tasks w).after s t).slots i)) else changes_of s ((tasks w).after s t) (slot_at s.slots i))
    else 0

-- The user's views are right behind it, and were told no more.
pub record ViewsDone {B : Type 0} (rows : B → List Row) (told : B → Told) (w : Window) (s : State) (t : Task) (before after : List (Option B)) : Type 0 where
  pub right : AreRight rows w ((tasks w).after s t) after
  pub counted : AreToldAtMost told (most_told w s t) before after
