-- The views of the slots beside a desk. This project's own.
use Rattle.std.specs.Prelude.{ℕ, ◌+◌, ◌||◌, nat_lt, if◌then◌else◌, Bool, List, Option, length, unwrap_or}
use Rattle.script_lines.specs.Clients.{Tagged, said}
use Rattle.script_lines.specs.declared.line.Line.{Line}
use Rattle.shell_commands.specs.Watching.{watches}
use Rattle.shell_state.specs.Slots.{slot_at}
use Rattle.tree_live.specs.Slots.{in_slot}
use Rattle.tree_live.specs.Views.{Told}
use Rattle.tree_rows.specs.declared.row.Row.{Row}
use Rattle.view_commands.specs.Views.{AreToldAtMost, IsRight, changes_of, is_shown, slot_hits}
use Rattle.desk_commands.specs.Desk.{Desk, desk_after, seen_by, window_of}
use Rattle.desk_commands.specs.Standing.{effective}

-- The client who owns a slot.
abbrev pub owner : Bool → ℕ → ℕ
owner tagged i = if tagged then (if nat_lt i 2 then 0 else if nat_lt i 4 then 1 else if nat_lt i 6 then 2 else 3) else 0

-- Each view is right beside what the owner of its slot sees.
abbrev pub AllRight : {B : Type 0} → (B → List Row) → Desk → List (Option B) → Type 0
AllRight rows desk views = (i : ℕ) → IsRight rows (seen_by desk (owner desk.clients.tagged i)) (slot_at desk.slots i) (in_slot views i)

-- Whether a line watches a slot: none does that no client says.
abbrev pub line_watches : Desk → Line → ℕ → Bool
line_watches desk line i = watches (window_of desk.clients (unwrap_or line.client 0)) (effective desk.clients line.client line.order) i

-- The slots whose views it may change: those that show trees, and the one that it watches.
abbrev pub line_touches : Desk → Line → ℕ → Bool
line_touches desk line i = is_shown (slot_at desk.slots i) || line_watches desk line i

-- How many changes a line tells the view of a slot at most: one for each row that differs behind it; if it watches the slot, one more than
-- hits are shown then.
abbrev pub line_told : Desk → Tagged → ℕ → ℕ
line_told desk t i =
    let client : ℕ = owner desk.clients.tagged i in
    if line_watches desk (said t.client t.task.order) i
    then 1 + length (slot_hits (seen_by (desk_after desk t) client) (slot_at (desk_after desk t).slots i))
    else changes_of (seen_by desk client) (seen_by (desk_after desk t) client) (slot_at desk.slots i)

-- The views are right behind it, and were told no more.
pub record LineShown {B : Type 0} (rows : B → List Row) (told : B → Told) (desk : Desk) (t : Tagged) (before after : List (Option B)) : Type 0 where
  pub right : AllRight rows (desk_after desk t) after
  pub counted : AreToldAtMost told (line_told desk t) before after
