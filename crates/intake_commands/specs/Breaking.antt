-- How the taking in of a body is broken off. This project's own.
use Rattle.std.specs.Prelude.{◌≡◌, ⊤, ℕ, List, ◌++◌, Option}
use Rattle.base_files.specs.Seen.{Seen}
use Rattle.base_files.specs.Told.{adds}
use Rattle.base_files.specs.declared.faults.Stop.TheVariants as stop
use Rattle.command_runs.specs.Plain.{after_all, run}
use Rattle.pgn_read.specs.declared.item.Item.{Item}
use Rattle.shell_state.specs.Stands.{Holding, Stands}
use Rattle.shell_state.specs.State.{State}
use Rattle.shell_state.specs.declared.halt.Halt.{Halt}
use Rattle.shell_state.specs.declared.halt.Halt.TheVariants as halt
use Rattle.intake_commands.specs.Importing.{intake, none_taken}

-- The first items were taken in: the machine stands for the state behind them, beside the files as they were then, and just their lines are
-- written, whole.
pub record TookFirst (holding : Holding) (s : State) (items : List Item) (told told' : Option (List ℕ)) : Type 0 where
  pub done : List Item
  pub left : List Item
  pub all : items ≡ done ++ left
  pub seen : Seen
  pub stands : Stands holding seen (after_all intake (none_taken s) done).state
  pub written : told' ≡ adds told (run intake (none_taken s) done)

-- If the input or the files broke it off, the first items were taken in; the output and memory may break off a line.
abbrev pub TakesFirst : Holding → State → List Item → Option (List ℕ) → Option (List ℕ) → Halt → Type 0
TakesFirst holding s items told told' (halt.Device stop.Read) = TookFirst holding s items told told'
TakesFirst holding s items told told' (halt.Device stop.Files) = TookFirst holding s items told told'
TakesFirst holding s items told told' (halt.Device stop.Write) = ⊤
TakesFirst holding s items told told' (halt.Device stop.Memory) = ⊤
TakesFirst holding s items told told' (halt.Changed game kept found) = ⊥
