-- What bringing the views of a user up to date does beside a machine. Only private functions cite this.
use Rattle.std.specs.Prelude.{◌≡◌, ◌&&◌, if◌then◌else◌, List, Option, Result, OnOk, length}
use Rattle.base_files.specs.Seen.{Seen}
use Rattle.shell_state.specs.Slots.{slot_at}
use Rattle.shell_state.specs.Stands.{Fits, Holding, Stands, TablesFit}
use Rattle.shell_state.specs.State.{State}
use Rattle.shell_state.specs.declared.halt.Halt.{Halt}
use Rattle.tree_live.specs.Views.{Told}
use Rattle.tree_rows.specs.declared.row.Row.{Row}
use Rattle.view_commands.specs.Views.{AreLeft, AreRight, AreToldAtMost, changes_of, is_own, is_shown}
use Rattle.view_commands.specs.declared.window.Window.{Window}

-- The filters and the tables of a machine have what they need for each game.
pub record AllFit (machine : Holding) : Type 0 where
  pub filters : Fits machine
  pub tables : TablesFit machine

-- The machine stays. The user's views, if they were right beside an earlier state with the same slots, are right beside the one for which the
-- machine stands, and were told no more changes than rows differ. Others are as before.
pub record Updated {A B : Type 0} (rows : B → List Row) (told : B → Told) (w : Window) (machine machine' : Holding) (shown shown' : List (Option B)) (result : Result A Halt) : Type 0 where
  pub same : OnOk result (machine' ≡ machine)
  pub right : (seen : Seen) (earlier s : State) → Stands machine seen s → s.slots ≡ earlier.slots → AreRight rows w earlier shown → OnOk result (AreRight rows w s shown')
  pub counted : (seen : Seen) (earlier s : State) → Stands machine seen s → s.slots ≡ earlier.slots → AreRight rows w earlier shown → OnOk result (AreToldAtMost told (λ i. if is_own w i then changes_of earlier s (slot_at s.slots i) else 0) shown shown')
  pub left : (seen : Seen) (s : State) → Stands machine seen s → AreLeft (λ i. is_own w i && is_shown (slot_at s.slots i)) shown shown'
  pub others : AreLeft (is_own w) shown shown'
  pub number : length shown' ≡ length shown
