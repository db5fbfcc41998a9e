-- The commands on slots, each of which shows the tree of a position in a view, and keeps it right. This project's own.
use Rattle.std.specs.Prelude.{◌≡◌, ◌≤◌, ℕ, ◌+◌, ◌&&◌, nat_le, nat_lt, if◌then◌else◌, Bool, true, false, List, [], Option, Some, None, IsSome, codes, map, slice_set}
use Rattle.cell_core.specs.Board.{Men}
use Rattle.cell_core.specs.Packed.{Packed, packed_of}
use Rattle.cell_core.specs.declared.man.Colour.{Colour}
use Rattle.game_filter.specs.declared.op.Op.TheVariants.{Ignore}
use Rattle.shell_state.specs.Lines.{game_line}
use Rattle.shell_state.specs.Slots.{Slot, exactly, exactly_on, hit_of_game, slot_at}
use Rattle.shell_state.specs.Slots.Slot.{empty, idle, shows}
use Rattle.shell_state.specs.State.{State}
use Rattle.shell_state.specs.Work.{Work, quiet, reading}
use Rattle.shell_state.specs.Meeting.{position_len, tree_hits, tree_of}
use Rattle.tree_live.specs.RowChanges.{rows_changed}
use Rattle.tree_live.specs.Slots.{in_slot}
use Rattle.tree_live.specs.Views.{Shows, Told, ToldMore}
use Rattle.tree_live.specs.Watching.{all_out, under}
use Rattle.tree_live.specs.declared.entry.Entry.{Entry}
use Rattle.tree_rows.specs.Rows.{rows_of}
use Rattle.tree_rows.specs.declared.hit.GameHit.{GameHit}
use Rattle.tree_rows.specs.declared.row.Row.{Row}
use Rattle.view_commands.specs.declared.window.Window.{Window}

-- Which of the slots are a user's own: so many from a number on, which the user counts from 0. The user of a script
-- that has no other has all eight.
abbrev pub all_slots : Window
all_slots = record { first = 0; count = 8 }

abbrev pub is_own : Window → ℕ → Bool
is_own w i = nat_le w.first i && nat_lt i (w.first + w.count)

-- What slot k of a user shows; past the user's last one there is none that has a view.
abbrev pub own_slot : Window → State → ℕ → Slot
own_slot w s k = if nat_lt k w.count then slot_at s.slots (w.first + k) else empty

-- The state with another one there.
abbrev pub with_slot : Window → State → ℕ → Slot → State
with_slot w s k slot = if nat_lt k w.count then record s { slots = slice_set s.slots (w.first + k) slot } else s

abbrev pub no_view_line : ℕ → List ℕ
no_view_line k = game_line (codes "error: no view ") k

-- watch K BOARD SIDE: a slot that has a view shows the tree of this position from now on.
abbrev pub showing : Packed → Slot → Slot
showing board empty = empty
showing board _ = shows board

abbrev pub watch_line : ℕ → Slot → List ℕ
watch_line k empty = no_view_line k
watch_line k _ = game_line (codes "watching ") k

abbrev pub watch_work : Window → ℕ → Men → Colour → Work
watch_work w k board side =
    reading (λ s. with_slot w s k (showing (packed_of board side) (own_slot w s k))) (λ s. watch_line k (own_slot w s k)) (position_len Ignore (exactly board side))

-- view K: the text of the tree that a slot shows, over the games that are in.
abbrev pub view_text : State → ℕ → Slot → List ℕ
view_text s k (shows board) = tree_of (exactly_on board) s.seat.filter s.shared.base.games
view_text s k _ = no_view_line k

abbrev pub view_work : Window → ℕ → Work
view_work w k = quiet (λ s. s) (λ s. view_text s k (own_slot w s k))

-- unwatch K: a slot that shows a tree loses its view.
abbrev pub left : Slot → Slot
left (shows board) = empty
left slot = slot

abbrev pub unwatch_line : ℕ → Slot → List ℕ
unwatch_line k (shows board) = game_line (codes "unwatched ") k
unwatch_line k _ = no_view_line k

abbrev pub unwatch_work : Window → ℕ → Work
unwatch_work w k = quiet (λ s. with_slot w s k (left (own_slot w s k))) (λ s. unwatch_line k (own_slot w s k))

-- ---- views beside a state

-- The hits that the tree of a board counts in a state.
abbrev pub shown_hits : State → Packed → List GameHit
shown_hits s board = tree_hits (exactly_on board) s.seat.filter s.shared.base.games

-- A view is right beside a state: there is none in an empty slot, one in an idle slot, and in one that shows a tree one with its rows.
abbrev pub IsRight : {B : Type 0} → (B → List Row) → State → Slot → Option B → Type 0
IsRight rows s empty view = view ≡ None
IsRight rows s idle view = IsSome view
IsRight rows s (shows board) None = ⊥
IsRight rows s (shows board) (Some view) = Shows (shown_hits s board) (rows view)

-- So is each of a user's own slots.
abbrev pub AreRight : {B : Type 0} → (B → List Row) → Window → State → List (Option B) → Type 0
AreRight rows w s views = (i : ℕ) → is_own w i ≡ true → IsRight rows s (slot_at s.slots i) (in_slot views i)

-- Whether a slot shows a tree, and the hits that its tree counts in a state.
abbrev pub is_shown : Slot → Bool
is_shown (shows board) = true
is_shown _ = false

abbrev pub slot_hits : State → Slot → List GameHit
slot_hits s (shows board) = shown_hits s board
slot_hits s _ = []

-- How many rows of the tree that a slot shows differ between two states.
abbrev pub changes_of : State → State → Slot → ℕ
changes_of s later (shows board) = rows_changed (rows_of (shown_hits s board)) (rows_of (shown_hits later board))
changes_of s later _ = 0

-- The games of a state, each with what the tree of a board counts of it, if it does, and whether it is in.
abbrev pub entries_of : State → Packed → List Entry
entries_of s board = under s.seat.filter (all_out (map (hit_of_game (exactly_on board)) s.shared.base.games))

-- A view that stays is the one that stood there, and was told no more than so many changes; there is none if there was none.
abbrev pub IsToldAtMost : {B : Type 0} → (B → Told) → ℕ → Option B → Option B → Type 0
IsToldAtMost told most None after = after ≡ None
IsToldAtMost told most (Some before) None = Unit {0}
IsToldAtMost told most (Some before) (Some after) = ToldMore most (told before) (told after)

abbrev pub AreToldAtMost : {B : Type 0} → (B → Told) → (ℕ → ℕ) → List (Option B) → List (Option B) → Type 0
AreToldAtMost told most before after = (k : ℕ) → IsToldAtMost told (most k) (in_slot before k) (in_slot after k)

-- Every view but those of some slots is as before.
abbrev pub AreLeft : {B : Type 0} → (ℕ → Bool) → List (Option B) → List (Option B) → Type 0
AreLeft touched before after = (k : ℕ) → touched k ≡ false → in_slot after k ≡ in_slot before k
