-- What stands around the desk of a session (this project's own): what the files tell, and the views of the slots, at
-- its beginning and now. Beside them stands how many changes each view was told since then at most.
use Rattle.std.specs.Prelude.{◌≡◌, ◌≤◌, ◌+◌, ℕ, ⊤, false, if◌then◌else◌, List, [], ◌∷◌, Option, None, is_some, map, option_map}
use Rattle.std.specs.List.{range_with_len}
use Rattle.base_files.specs.Seen.{Seen}
use Rattle.desk_commands.specs.Desk.{Desk, desks}
use Rattle.desk_commands.specs.Standing.{DeskHolding, DeskStands, line_price}
use Rattle.desk_commands.specs.Views.{AllRight, line_told, line_watches}
use Rattle.script_lines.specs.Clients.{Tagged, said}
use Rattle.script_lines.specs.declared.line.Line.{Line}
use Rattle.shell_state.specs.Slots.{Slot, slot_at}
use Rattle.shell_state.specs.Slots.Slot.{empty, idle, shows}
use Rattle.tree_live.specs.Slots.{in_slot}
use Rattle.tree_live.specs.Views.{Told}
use Rattle.tree_rows.specs.declared.row.Row.{Row}
use Rattle.view_commands.specs.Views.{AreToldAtMost}

-- What a view means: its rows, which view it is, and how many changes it was told.
pub record Meaning : Type 0 where
  pub rows : List Row
  pub told : Told

abbrev pub Views : Type 0
Views = List (Option Meaning)

abbrev pub meanings : {B : Type 0} → (B → List Row) → (B → Told) → List (Option B) → Views
meanings rows told views = map (option_map (λ view. record { rows = rows view; told = told view })) views

-- The slots over some views: one is idle if a view stands, and empty else.
abbrev pub slots_by : Views → List Slot
slots_by views = map (λ k. if is_some (in_slot views k) then idle else empty) (range_with_len 0 8)

pub record Around : Type 0 where
  pub seen : Seen
  pub first : Views
  pub most : ℕ → ℕ
  pub now : Views

-- What some tasks come to at a desk, one after the other, by what each of them comes to.
abbrev pub summed : (Desk → Tagged → ℕ) → Desk → List Tagged → ℕ
summed of_one d [] = 0
summed of_one d (next ∷ later) = of_one d next + summed of_one (desks.after d next) later

-- The views beside a desk: each is right, one whose slot is idle is as it was at the beginning, and one that stands is the view that stood
-- there and was told no more changes.
pub record AreBeside (there : Around) (d : Desk) : Type 0 where
  pub right : AllRight (λ (view : Meaning). view.rows) d there.now
  pub idle : (k : ℕ) → slot_at d.slots k ≡ idle → in_slot there.now k ≡ in_slot there.first k
  pub told : AreToldAtMost (λ (view : Meaning). view.told) there.most there.first there.now

-- What a line that is broken off leaves in a slot that it does not watch: no view if it was empty, and if it was idle that of the beginning.
abbrev pub IsLeftIn : Slot → Option Meaning → Option Meaning → Type 0
IsLeftIn empty first now = now ≡ None
IsLeftIn idle first now = now ≡ first
IsLeftIn (shows board) first now = ⊤

abbrev pub AreLeftBy : Around → Desk → Line → Type 0
AreLeftBy there d line = (k : ℕ) → line_watches d line k ≡ false → IsLeftIn (slot_at d.slots k) (in_slot there.first k) (in_slot there.now k)

-- ---- what only private functions cite

-- The machine stands for a desk, with such views.
pub record Lives (held : DeskHolding) (there : Around) (d : Desk) : Type 0 where
  pub stands : DeskStands held there.seen d
  pub views : AreBeside there d

abbrev pub around : Seen → Views → (ℕ → ℕ) → Views → Around
around seen first most now = record { seen = seen; first = first; most = most; now = now }

-- So many changes more were told.
abbrev pub told_more : Around → (ℕ → ℕ) → Around
told_more there more = record there { most = λ k. there.most k + more k }

-- How many changes some tasks tell the view of a slot at most, and what their lines ask at most.
abbrev pub told_all : Desk → List Tagged → ℕ → ℕ
told_all d tasks k = summed (λ d next. line_told d next k) d tasks

abbrev pub price_all : Desk → List Tagged → ℕ
price_all d tasks = summed (λ d next. line_price d (said next.client next.task.order)) d tasks
