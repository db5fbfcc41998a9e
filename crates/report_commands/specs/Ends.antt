-- How the reports end early, and what games get by them. Only private functions cite this.
use Rattle.std.specs.Fmt.{decimal}
use Rattle.std.specs.List.{list_any}
use Rattle.std.specs.Prelude.{ℕ, ◌≤◌, IfSome, Option, ◌≡◌, Some, None, codes, ◌++◌, List, [], ◌∷◌, length, ◌||◌, fold, is_some, unwrap_or}
use Rattle.base_core.specs.Base.{Base, Held}
use Rattle.base_core.specs.Edited.{ChangedHeads, Does}
use Rattle.base_core.specs.Edits.{classified, deleted}
use Rattle.base_core.specs.Represents.{Kept}
use Rattle.base_files.specs.declared.faults.Stop.TheVariants as stop
use Rattle.twin_games.specs.declared.fault.TwinError.{TwinError}
use Rattle.twin_games.specs.declared.fault.TwinError.TheVariants as twins
use Rattle.shell_state.specs.Ends.{halt_of_fetch}
use Rattle.shell_state.specs.Lines.{line_of}
use Rattle.shell_state.specs.declared.halt.Halt.{Halt}
use Rattle.shell_state.specs.declared.halt.Halt.TheVariants as halt

-- How a command ends whose twins are not known.
abbrev pub halt_of_twins : TwinError → Halt
halt_of_twins (twins.Fetch error) = halt_of_fetch error
halt_of_twins twins.Memory = halt.Device stop.Memory

-- `twins C`: how many were marked.
abbrev pub twins_line : ℕ → List ℕ
twins_line count = line_of (codes "twins " ++ decimal count)

-- An opening code, if it is one.
abbrev pub IsCode : Option ℕ → Type 0
IsCode code = IfSome code (λ eco. eco ≤ 65500)

-- The game of this number got a code, if there is one.
abbrev pub IsCoded : ℕ → Option ℕ → Kept → Kept → Type 0
IsCoded i None old new = new ≡ old
IsCoded i (Some code) old new = Does (classified i code) old new × ChangedHeads old new

-- A game with a code; without one it keeps its own.
abbrev pub with_code : Option ℕ → Held → Held
with_code code held = record held { head = record held.head { eco = unwrap_or code held.head.eco } }

-- The games with these codes, one after the other; behind the last code they stay as they are.
abbrev pub coded : List (Option ℕ) → List Held → List Held
coded [] games = games
coded (code ∷ codes) [] = []
coded (code ∷ codes) (held ∷ games) = with_code code held ∷ coded codes games

-- The games got these codes, and nothing else was changed.
pub record AreCoded (codes : List (Option ℕ)) (old new : Kept) : Type 0 where
  pub does : Does (λ base. record base { games = coded codes base.games }) old new
  pub names : new.names ≡ old.names
  pub count : length new.entries ≡ length old.entries
  pub end : new.end ≡ old.end
  pub unsaved : new.unsaved ≡ list_any is_some codes || old.unsaved

-- The base with all these games marked as deleted.
abbrev pub all_deleted : List ℕ → Base → Base
all_deleted games base = fold (λ base game. deleted game base) base games

-- All these games were marked as deleted, if there are any.
abbrev pub Marked : List ℕ → Kept → Kept → Type 0
Marked [] old new = new ≡ old
Marked (game ∷ games) old new = Does (all_deleted (game ∷ games)) old new × ChangedHeads old new
