-- How far the games of `demo` were added and shown. Only private functions cite this.
use Rattle.std.specs.Prelude.{◌≡◌, ℕ, true, None, List, Some, ◌+◌, ◌≤◌, ⊤, Option, Ok, [], Result, Err}
use Rattle.base_files.specs.Seen.{Seen}
use Rattle.base_files.specs.declared.faults.Stop.TheVariants as stop
use Rattle.command_runs.specs.Endings.{Done, Halted}
use Rattle.search_commands.specs.Demo.{Adding}
use Rattle.search_commands.specs.declared.demoing.Added.{Added}
use Rattle.search_commands.specs.declared.demoing.Added.TheVariants.{Plies, Refused}
use Rattle.shell_state.specs.Ends.{IsFault}
use Rattle.shell_state.specs.Stands.{Holding, Stands, Unfinished}
use Rattle.shell_state.specs.State.{State}
use Rattle.shell_state.specs.declared.halt.Halt.{Halt}
use Rattle.shell_state.specs.declared.halt.Halt.TheVariants as halt
use Rattle.shell_state.specs.declared.refusing.Refusal.{Refusal}

-- The machine stands for the state behind the games so far, none of which was refused.
pub record IsAdding (holding : Holding) (seen : Seen) (drawn_from sum : ℕ) (a : Adding) : Type 0 where
  pub stands : Stands holding seen a.state
  pub number : a.number ≡ drawn_from
  pub plies : a.plies ≡ sum
  pub good : a.refused ≡ None

-- The next game was refused, and this is why.
pub record IsRefused (holding : Holding) (seen : Seen) (why : Refusal) (a : Adding) : Type 0 where
  pub stands : Stands holding seen a.state
  pub refused : a.refused ≡ Some why

-- The machine stands for the state behind the games that were added; none was refused, or the next one was.
abbrev pub Adds : Holding → Seen → Adding → Added → Type 0
Adds holding seen a (Plies sum) = Stands holding seen a.state × ((a.plies ≡ sum) × (a.refused ≡ None))
Adds holding seen a (Refused why) = IsRefused holding seen why a

-- One more game was made, and added or refused.
abbrev pub AddsNext : Holding → Seen → ℕ → ℕ → Adding → Added → Type 0
AddsNext holding seen number sum a (Plies more) = IsAdding holding seen number (sum + more) a
AddsNext holding seen number sum a (Refused why) = IsRefused holding seen why a

abbrev pub IsShort : Added → Type 0
IsShort (Plies more) = more ≤ 60
IsShort (Refused why) = ⊤

-- The text was written and the machine stands for the state, or a front part of the text was: not all of it if the files failed.
abbrev pub Wrote : Holding → Seen → State → List ℕ → Option (List ℕ) → Option (List ℕ) → Result (Unit {0}) Halt → Type 0
Wrote holding seen s text told told' (Ok _) = Done (Stands holding seen) s text told told'
Wrote holding seen s text told told' (Err e) =
    Halted [] text told told' × IsFault e × (e ≡ halt.Device stop.Files → Unfinished true text told told')
