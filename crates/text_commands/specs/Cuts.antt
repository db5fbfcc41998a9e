-- How the text of a game, or of many, is broken off. Only private functions cite this.
use Rattle.std.specs.Prelude.{◌≡◌, ℕ, true, List, [], Option, Some, Result, Ok, Err, slice_get}
use Rattle.base_core.specs.Base.{Held}
use Rattle.base_core.specs.Represents.{Kept}
use Rattle.base_files.specs.Told.{adds}
use Rattle.base_files.specs.declared.faults.Stop.TheVariants as stop
use Rattle.command_runs.specs.Endings.{Halted}
use Rattle.index_entry.specs.declared.entry.Entry.{Entry}
use Rattle.shell_state.specs.Ends.{IsFault}
use Rattle.shell_state.specs.Stands.{Unfinished}
use Rattle.shell_state.specs.declared.halt.Halt.{Halt}
use Rattle.shell_state.specs.declared.halt.Halt.TheVariants as halt
use Rattle.text_commands.specs.GameTexts.{ExportCut, IsTextIfIn, exported}

-- A game's text was written, or was broken off: nothing of it if the files failed, and else a front part. Told files never change.
pub record GameCut (e : Halt) (text : List ℕ) (told : Option (List ℕ)) (told' : Option (List ℕ)) : Type 0 where
  pub wrote : Halted [] text told told'
  pub whole : e ≡ halt.Device stop.Files → told' ≡ told
  pub fault : IsFault e

abbrev pub GameEnds : {A : Type 0} → Result A Halt → List ℕ → Option (List ℕ) → Option (List ℕ) → Type 0
GameEnds (Ok x) text told told' = told' ≡ adds told text
GameEnds (Err e) text told told' = GameCut e text told told'

-- The texts of the games that are in were written, or were broken off at a game: before the end of the last one if the files failed.
abbrev pub GamesEnd : {A : Type 0} → Result A Halt → List (Option ℕ) → List Held → Option (List ℕ) → Option (List ℕ) → Type 0
GamesEnd (Ok x) plies games told told' = told' ≡ adds told (exported plies games)
GamesEnd (Err e) plies games told told' =
    ExportCut plies games e told told' × IsFault e × (e ≡ halt.Device stop.Files → Unfinished true (exported plies games) told told')

-- The text of a kept game was put, if the game is in.
abbrev pub PutsTextIfIn : Kept → ℕ → Option ℕ → Option (List ℕ) → Option (List ℕ) → Type 0
PutsTextIfIn kept game ply told told' =
    (e : Entry) → slice_get kept.entries game ≡ Some e → (text : List ℕ) × (IsTextIfIn kept.names ply e text × (told' ≡ adds told text))
