-- What tests over slots know between two changes.
use Rattle.std.specs.Prelude.{◌≡◌, ℕ, List, Option, length}
use Rattle.tree_rows.specs.declared.row.Row.{Row}
use Rattle.tree_live.specs.Slots.{Slotted, AreHeld, AreShown, EachWatch}

-- Each view shows its rows, and each watch has so many games.
pub record AreStanding {B : Type 0} (rows : B → List Row) (slots : Slotted) (views : List (Option B)) (games : ℕ) : Type 0 where
  pub shown : AreShown rows slots views
  pub sized : EachWatch (λ watch. length watch.games ≡ games) slots

-- A view stands in each slot that is watched, whatever it shows, and each watch has so many games.
pub record AreWaiting {B : Type 0} (slots : Slotted) (views : List (Option B)) (games : ℕ) : Type 0 where
  pub held : AreHeld slots views
  pub sized : EachWatch (λ watch. length watch.games ≡ games) slots
