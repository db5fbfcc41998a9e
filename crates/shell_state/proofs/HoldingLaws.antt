-- What is read of games whose records are held.
use Rattle.std.proofs.Common.{◌≡◌, ℕ, List, Option, Some, subst}
use Rattle.base_files.specs.declared.extent.Extent.{Extent}
use Rattle.command_runs.specs.Counts.{counts}
use Rattle.game_tree.specs.Game.{GameTree}
use Rattle.sig_index.proofs.HeldLemmas.{held_stays}
use Rattle.sig_index.specs.Games.{Holds, HasChanged, HasFetchCause}
use Rattle.sig_index.specs.declared.games.FetchError.{FetchError}
use Rattle.sig_index.specs.declared.games.FetchError.TheVariants.{Failed, Changed}
use Rattle.sig_index.specs.declared.signature.Sig.{Sig}
use Rattle.shell_state.specs.Ends.{IsDevice, halt_of_fetch}
use Rattle.shell_state.specs.Stands.{WhyHalt}

-- It has not changed.
pub never_changed : (games : Option (List ℕ)) (told : List ℕ) (extents : List Extent) (sigs : List Sig) (list : List GameTree) (buffer : List ℕ) (game : ℕ) (kept : Sig) (found : Option Sig)
    → games ≡ Some told → Holds told extents sigs list → HasChanged sigs extents games buffer game kept found → ⊥
never_changed games told extents sigs list buffer game kept found same holds changed =
    let C : Option (List ℕ) → Type 0 = λ o. HasChanged sigs extents o buffer game kept found in
    held_stays told extents sigs list buffer game kept found holds (subst C same changed)

-- A game that is held is not fetched where the files fail alone.
pub fetch_device : (e : FetchError) (games : Option (List ℕ)) (told : List ℕ) (extents : List Extent) (sigs : List Sig) (list : List GameTree) (buffer : List ℕ) (f f' : ℕ)
    → games ≡ Some told → Holds told extents sigs list → HasFetchCause e sigs extents games buffer f f' → IsDevice (halt_of_fetch e)
fetch_device Failed games told extents sigs list buffer f f' same holds cause = tt
fetch_device (Changed game kept found) games told extents sigs list buffer f f' same holds cause =
    absurd (never_changed games told extents sigs list buffer game kept found same holds cause)

-- The cause of a game that is not fetched is that of the command.
pub fetch_why : (e : FetchError) (games : Option (List ℕ)) (extents : List Extent) (sigs : List Sig) (buffer : List ℕ) (f f' : ℕ)
    → HasFetchCause e sigs extents games buffer f f' → WhyHalt (halt_of_fetch e) (counts f 0 0) (counts f' 0 0)
fetch_why Failed games extents sigs buffer f f' cause = cause
fetch_why (Changed game kept found) games extents sigs buffer f f' cause = cause.is_other
