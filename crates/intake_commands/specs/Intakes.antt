-- How far a body was taken in. Only private functions cite this.
use Rattle.std.specs.Prelude.{◌≡◌, ◌+◌, Bool, if◌then◌else◌, ℕ, List, [], Option, Result, Ok, Err, ◌++◌, Some, ◌∷◌, None, codes, ⊤}
use Rattle.base_files.specs.Seen.{Seen}
use Rattle.base_files.specs.Told.{adds}
use Rattle.command_runs.specs.Endings.{Done, Halted}
use Rattle.command_runs.specs.Plain.{after_all, run}
use Rattle.pgn_read.specs.Fit.{IsFitGame}
use Rattle.pgn_read.specs.Items.{AreItems, items_of}
use Rattle.pgn_read.specs.Text.{At}
use Rattle.pgn_read.specs.declared.item.Item.{Item}
use Rattle.pgn_read.specs.declared.item.Item.TheVariants.{Good}
use Rattle.intake_commands.specs.Breaking.{TakesFirst}
use Rattle.intake_commands.specs.Importing.{Intake, intake, item_line, none_taken, first_faulty, faulty_line}
use Rattle.intake_commands.specs.declared.replacing.Only.{Only}
use Rattle.intake_commands.specs.declared.replacing.Only.TheVariants as only
use Rattle.shell_state.specs.Ends.{IsBodyFault}
use Rattle.shell_state.specs.Refusing.{refusal_words}
use Rattle.shell_state.specs.Stands.{Holding, Stands}
use Rattle.shell_state.specs.State.{State}
use Rattle.shell_state.specs.declared.halt.Halt.{Halt}
use Rattle.shell_state.specs.declared.refusing.Refusal.{Refusal}

-- `error: game K: WHY`: a game that is not added.
abbrev pub not_added_line : ℕ → Refusal → List ℕ
not_added_line number why = item_line number (codes ": " ++ refusal_words why)

-- One more item was taken in: its game was added, or it was refused.
pub record Counted (was_added : Bool) (before after : Intake) : Type 0 where
  pub added : after.added ≡ before.added + (if was_added then 1 else 0)
  pub refused : after.refused ≡ before.refused + (if was_added then 0 else 1)

-- The machine stands for the state of an intake, of which these are the counts.
pub record IsIntake (holding : Holding) (seen : Seen) (good bad : ℕ) (i : Intake) : Type 0 where
  pub stands : Stands holding seen i.state
  pub added : i.added ≡ good
  pub refused : i.refused ≡ bad

-- All items of a text were taken in, and these are the counts; or a front part of their lines was written.
abbrev pub TakesIn : Holding → Seen → State → List Item → Option (List ℕ) → Option (List ℕ) → Result (ℕ × ℕ) Halt → Type 0
TakesIn holding seen s items told told' (Ok given) = Done (IsIntake holding seen given.0 given.1) (after_all intake (none_taken s) items) (run intake (none_taken s) items) told told'
TakesIn holding seen s items told told' (Err e) =
    Halted [] (run intake (none_taken s) items) told told' × IsBodyFault e × TakesFirst holding s items told told' e

-- What stands ahead of a reader of a text: some of its items are read, and the others are still there.
pub record AreBehind (text : List ℕ) (ahead : Option At) (done : List Item) : Type 0 where
  pub at : At
  pub there : ahead ≡ Some at
  pub all : (later : List Item) → AreItems at later → items_of text ≡ done ++ later

-- What a body is that is to have one game: the game alone, another number of games, or its first item that is none.
abbrev pub IsOnly : List Item → Only → Type 0
IsOnly items (only.Game head game) = items ≡ Good head game ∷ []
IsOnly items only.Other = (first_faulty 1 items ≡ None) × ((head : _) (game : _) → items ≡ Good head game ∷ [] → ⊥)
IsOnly items (only.Faulty number fault) = first_faulty 1 items ≡ Some (faulty_line number fault)

-- A game that may be put there is one that a base takes.
abbrev pub IsFitOnly : Only → Type 0
IsFitOnly (only.Game head game) = IsFitGame head game
IsFitOnly _ = ⊤

-- The same of the items behind a good first one.
abbrev pub IsRest : List Item → Option Only → Type 0
IsRest items None = items ≡ []
IsRest items (Some only.Other) = (first_faulty 2 items ≡ None) × (items ≡ [] → ⊥)
IsRest items (Some (only.Faulty number fault)) = first_faulty 2 items ≡ Some (faulty_line number fault)
IsRest items (Some (only.Game head game)) = ⊥

-- The items of a text so far were taken in: these were added and refused, their lines are written, and the others are still there.
pub record TookIn (holding : Holding) (seen : Seen) (s : State) (text : List ℕ) (ahead : Option At) (told told' : Option (List ℕ)) (added refused : ℕ) : Type 0 where
  pub done : List Item
  pub behind : AreBehind text ahead done
  pub stands : IsIntake holding seen added refused (after_all intake (none_taken s) done)
  pub written : told' ≡ adds told (run intake (none_taken s) done)

-- One more item was taken in, of which the flag says whether its game was added; or there was none, and all were taken in; or it was broken off.
abbrev pub TookNext : Holding → Seen → State → List ℕ → Option At → Option (List ℕ) → Option (List ℕ) → ℕ → ℕ → Result (Option Bool) Halt → Type 0
TookNext holding seen s text ahead told told' added refused (Ok (Some flag)) =
    TookIn holding seen s text ahead told told' (added + (if flag then 1 else 0)) (refused + (if flag then 0 else 1))
TookNext holding seen s text ahead told told' added refused (Ok None) =
    Done (IsIntake holding seen added refused) (after_all intake (none_taken s) (items_of text)) (run intake (none_taken s) (items_of text)) told told'
TookNext holding seen s text ahead told told' added refused (Err e) =
    Halted [] (run intake (none_taken s) (items_of text)) told told' × IsBodyFault e × TakesFirst holding s (items_of text) told told' e

-- The machine stands for a later state of the same script, beside files that carry the same.
pub record StandsLater (holding : Holding) (seen : Seen) (s : State) : Type 0 where
  pub state : State
  pub stands : Stands holding seen state
  pub carried : state.shared.carried ≡ s.shared.carried

-- Whether there were items behind a good first one, of which these are left.
abbrev pub IsBegun : List Item → Option Only → List Item → Type 0
IsBegun items None later = items ≡ later
IsBegun items (Some only.Other) later = items ≡ [] → ⊥
IsBegun items (Some (only.Game head game)) later = ⊥
IsBegun items (Some (only.Faulty number fault)) later = ⊥

-- Of items behind a good first one these are left, the first of them of this number; those before are games.
pub record IsLeft (items : List Item) (number : ℕ) (more : Option Only) (at : At) : Type 0 where
  pub later : List Item
  pub are : AreItems at later
  pub faulty : first_faulty 2 items ≡ first_faulty number later
  pub begun : IsBegun items more later

pub record ReadOn (at : At) (ahead : Option At) (number : ℕ) (more : Option Only) : Type 0 where
  pub here : At
  pub there : ahead ≡ Some here
  pub all : (items : List Item) → AreItems at items → IsLeft items number more here
