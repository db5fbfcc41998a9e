-- What the loop over the seats of a desk keeps on its way. Only private functions cite this.
use Rattle.std.specs.Prelude.{◌≡◌, ℕ, ◌<◌, ◌≤◌, List, Option, None, length, slice_index_or}
use Rattle.tree_rows.specs.declared.row.Row.{Row}
use Rattle.tree_live.specs.Slots.{in_slot}
use Rattle.tree_live.specs.Views.{Told}
use Rattle.client_desk.specs.declared.change.Change.{Change}
use Rattle.client_desk.specs.Seats.{Seated, IsSlot, SeatTold, ShowsSeat}
use Rattle.client_desk.specs.Changes.{Follows, most_told}
use Rattle.client_desk.specs.Desks.{EchoTold}

-- Every view is as before.
pub record SameViews {B : Type 0} (before after : List (Option B)) : Type 0 where
  pub views : (i : ℕ) → in_slot after i ≡ in_slot before i
  pub views_number : length after ≡ length before

-- A change that the client `by` made was brought to seat c, whether or not it went well.
pub record ToldAt {B : Type 0} (told : B → Told) (by : ℕ) (change : Change) (c : ℕ) (seats after : List Seated) (views views_after : List (Option B)) : Type 0 where
  pub own : c ≡ by → SameViews views views_after
  pub seat : (d : Seated) → (c ≡ by → ⊥) → SeatTold told (slice_index_or seats c d).slots (most_told None change (slice_index_or seats c d)) views views_after
  pub others : (j : ℕ) (d : Seated) → (j ≡ c → ⊥) → slice_index_or after j d ≡ slice_index_or seats j d
  pub number : length after ≡ length seats

-- It went well.
pub record DoneAt {B : Type 0} (rows : B → List Row) (by : ℕ) (change : Change) (c : ℕ) (seats after : List Seated) (views_after : List (Option B)) : Type 0 where
  pub own : (d : Seated) → c ≡ by → slice_index_or after c d ≡ slice_index_or seats c d
  pub seat : (d : Seated) → (c ≡ by → ⊥) → Follows None change (slice_index_or seats c d) (slice_index_or after c d)
  pub shown : (d : Seated) → ShowsSeat rows (slice_index_or after c d) views_after

-- The change was brought to the seats below c.
pub record Echoing {B : Type 0} (rows : B → List Row) (told : B → Told) (by : ℕ) (change : Change) (c : ℕ) (seats after : List Seated)
    (views views_after : List (Option B)) : Type 0 where
  pub all : EchoTold told by change seats views views_after
  pub done : (j : ℕ) (d : Seated) → j < c → (j ≡ by → ⊥) → Follows None change (slice_index_or seats j d) (slice_index_or after j d)
  pub own : (d : Seated) → slice_index_or after by d ≡ slice_index_or seats by d
  pub left : (j : ℕ) (d : Seated) → c ≤ j → slice_index_or after j d ≡ slice_index_or seats j d
  pub left_views : (j i : ℕ) (d : Seated) → c ≤ j → j < length seats → IsSlot (slice_index_or seats j d).slots i → in_slot views_after i ≡ in_slot views i
  pub shown : (j : ℕ) (d : Seated) → j < length seats → ShowsSeat rows (slice_index_or after j d) views_after
  pub number : length after ≡ length seats
