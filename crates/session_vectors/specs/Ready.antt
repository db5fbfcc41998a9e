-- What tests over a desk know between two calls.
use Rattle.std.specs.Prelude.{◌≡◌, ℕ, ◌+◌, ◌<◌, List, Option, All, length}
use Rattle.std.specs.List.{AllPairs}
use Rattle.game_filter.specs.Renumbering.{Rises}
use Rattle.tree_rows.specs.declared.row.Row.{Row}
use Rattle.client_desk.specs.declared.change.Change.{Change}
use Rattle.client_desk.specs.declared.change.Change.TheVariants.{Added, Edited, Renumbered}
use Rattle.client_desk.specs.Seats.{ShowsSeat}
use Rattle.client_desk.specs.Desks.{Seating, Apart}

-- No two seats share a slot, each slot that is watched shows its rows, and each seat has so many games.
pub record IsReady {B : Type 0} (rows : B → List Row) (desk : Seating) (views : List (Option B)) (games : ℕ) : Type 0 where
  pub apart : AllPairs Apart desk.seats
  pub shown : All (λ seat. ShowsSeat rows seat views) desk.seats
  pub sized : All (λ seat. length seat.filter ≡ games) desk.seats

-- A change that comes to a base of so many games, and leaves so many.
abbrev pub Comes : Change → ℕ → ℕ → Type 0
Comes (Added hits) games after = (games < 16777214) × (after ≡ games + 1)
Comes (Edited game replaced hits) games after = (game < games) × (after ≡ games)
Comes (Renumbered numbering) games after = (length numbering.to ≡ games) × Rises 0 numbering.to after
