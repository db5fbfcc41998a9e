-- What the loop over the watches keeps on its way.
use Rattle.std.specs.Prelude.{◌≡◌, ℕ, ◌<◌, ◌≤◌, List, Option, length, option_map}
use Rattle.tree_live.specs.declared.change.Change.{Change}
use Rattle.tree_live.specs.Watching.{Watched}
use Rattle.tree_live.specs.Slots.{in_slot, changed}

-- The change was brought to the watches below k.
pub record Followed (change : Change) (k : ℕ) (watches watches_after : List (Option Watched)) : Type 0 where
  pub watch : (j : ℕ) → j < k → in_slot watches_after j ≡ option_map (changed change j) (in_slot watches j)
  pub left : (j : ℕ) → k ≤ j → in_slot watches_after j ≡ in_slot watches j
  pub number : length watches_after ≡ length watches
