-- What a view of rows shows (this project's own).
use Rattle.std.specs.Prelude.{◌≡◌, ℕ, ◌+◌, ◌≤◌, ◌-◌, ◌^◌, nat_lt, if◌then◌else◌, List, Option, false}
use Rattle.cell_core.specs.declared.step.Move.{Move}
use Rattle.tree_rows.specs.declared.hit.GameHit.{GameHit}
use Rattle.tree_rows.specs.declared.row.Row.{Row}
use Rattle.tree_rows.specs.Keys.{same_key}
use Rattle.tree_rows.specs.Rows.{row_at, rows_of}
use Rattle.tree_live.specs.RowChanges.{rows_changed}

-- The row of one key is set, or taken out if it is none, and every other key has the row that it had.
pub record Sets (key : Option Move) (row : Option Row) (before after : List Row) : Type 0 where
  pub own : row_at key after ≡ row
  pub others : (other : Option Move) → same_key key other ≡ false → row_at other after ≡ row_at other before

-- The rows that are shown are those that sum these hits.
abbrev pub Shows : List GameHit → List Row → Type 0
Shows hits rows = (key : Option Move) → row_at key rows ≡ row_at key (rows_of hits)

-- What a view was told: which view it is, a number that no call changes or tells, and how many changes it was told.
pub record Told : Type 0 where
  pub who : ℕ
  pub changes : ℕ

-- It is the same view, and was told so many changes more at most.
pub record ToldMore (most : ℕ) (before after : Told) : Type 0 where
  pub same : after.who ≡ before.who
  pub few : after.changes ≤ before.changes + most

-- It is the same view, and was told no more changes than rows differ between those of the hits that it showed and these.
pub record ToldRows {B : Type 0} (rows : B → List Row) (told : B → Told) (later : List Row) (before after : B) : Type 0 where
  pub same : (told after).who ≡ (told before).who
  pub few : (hits : List GameHit) → Shows hits (rows before) → (told after).changes ≤ (told before).changes + rows_changed (rows_of hits) later

-- A view in memory: its rows, how many changes it was told and how many rows it was to put, and which of these puts it refuses.
pub record Table : Type 0 where
  pub rows : List Row
  pub told : ℕ
  pub puts : ℕ
  pub refuse : Option ℕ

-- A count with one more, which stands still at the greatest u64.
abbrev pub more : ℕ → ℕ
more n = if nat_lt n (2 ^ 64 - 1) then n + 1 else n

-- What it was told. Every view in memory has the number 0.
abbrev pub told_of : Table → Told
told_of table = record { who = 0; changes = table.told }
