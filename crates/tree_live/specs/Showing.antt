-- What the loop that tells the views of the slots keeps on its way.
use Rattle.std.specs.Prelude.{◌≡◌, ℕ, ◌+◌, ◌<◌, ◌≤◌, List, Option, length, option_map, IfSome}
use Rattle.tree_rows.specs.declared.row.Row.{Row}
use Rattle.tree_live.specs.Watching.{Watched, hits_in}
use Rattle.tree_live.specs.Slots.{in_slot, rows_in, IsTold}
use Rattle.tree_live.specs.Views.{Told, Shows, ToldRows}

-- The view of the slot k was told so much, and every other view is as before.
pub record ToldIn {B : Type 0} (rows : B → List Row) (told : B → Told) (first k : ℕ) (watches : List (Option Watched)) (views views_after : List (Option B)) : Type 0 where
  pub own : IsTold (ToldRows rows told) (option_map rows_in (in_slot watches k)) (in_slot views (first + k)) (in_slot views_after (first + k))
  pub others : (i : ℕ) → (i ≡ first + k → ⊥) → in_slot views_after i ≡ in_slot views i
  pub number : length views_after ≡ length views

-- Every view was told no more than that.
pub record ToldEach {B : Type 0} (rows : B → List Row) (told : B → Told) (first : ℕ) (watches : List (Option Watched)) (views views_after : List (Option B)) : Type 0 where
  pub slots : (j : ℕ) → IsTold (ToldRows rows told) (option_map rows_in (in_slot watches j)) (in_slot views (first + j)) (in_slot views_after (first + j))
  pub others : (i : ℕ) → i < first → in_slot views_after i ≡ in_slot views i
  pub number : length views_after ≡ length views

-- The views of the slots below k show the rows of their watches, and those of the others are as before.
pub record ShownBelow {B : Type 0} (rows : B → List Row) (told : B → Told) (first k : ℕ) (watches : List (Option Watched)) (views views_after : List (Option B)) : Type 0 where
  pub all : ToldEach rows told first watches views views_after
  pub shown : (j : ℕ) → j < k → IfSome (in_slot watches j) (λ watch. IfSome (in_slot views_after (first + j)) (λ view. Shows (hits_in watch.games) (rows view)))
  pub left : (j : ℕ) → k ≤ j → in_slot views_after (first + j) ≡ in_slot views (first + j)
