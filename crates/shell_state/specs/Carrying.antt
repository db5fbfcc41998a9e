-- What the files carry while a script runs. This project's own.
use Rattle.std.specs.Prelude.{true, ◌≡◌, ℕ, List, Some, Bool, false, [], Option, None, IfSome, IsSomeAnd, ◌⊎◌}
use Rattle.base_core.specs.Base.{Base}
use Rattle.base_core.specs.Means.{Carries, Means, HoldsNames}
use Rattle.base_core.specs.Represents.{Kept}
use Rattle.base_core.specs.Saved.{AreWhole}
use Rattle.base_files.specs.Seen.{Seen}
use Rattle.shell_state.specs.State.{Carried, State}

-- The three contents that files tell.
pub record Contents (seen : Seen) : Type 0 where
  pub index : List ℕ
  pub names : List ℕ
  pub games : List ℕ
  pub index_told : seen.index ≡ Some index
  pub names_told : seen.names ≡ Some names
  pub games_told : seen.games ≡ Some games

-- The files tell that they carry this base.
abbrev pub CarryIt : Seen → Base → Type 0
CarryIt seen base = (c : Contents seen) × Carries c.index c.names c.games base

-- The files beside a base that is open. They carry this base, whose names have the same ids in what is kept. If nothing
-- is unsaved they mean it, and were written as a whole for it if it was saved or compacted.
pub record Beside (kept : Kept) (seen : Seen) (unsaved : Bool) (carried : Carried) : Type 0 where
  pub contents : Contents seen
  pub carries : Carries contents.index contents.names contents.games carried.base
  pub names : HoldsNames kept.names carries.all_names
  pub means : unsaved ≡ false → Means contents.index contents.names contents.games carried.base
  pub whole : unsaved ≡ false → carried.sound ≡ true → AreWhole contents.index contents.names contents.games carried.base

-- The index and the names file are empty.
abbrev pub AreEmpty : Seen → Type 0
AreEmpty seen = (seen.index ≡ Some []) × (seen.names ≡ Some [])

-- The files beside a base that is open: if they carry a base, they stand beside it. Those of a base that was created
-- and neither saved nor compacted are empty.
abbrev pub AreBeside : Kept → Seen → Bool → Option Carried → Type 0
AreBeside kept seen unsaved (Some carried) = Beside kept seen unsaved carried
AreBeside kept seen unsaved None = AreEmpty seen

-- The files after the commands of a script. They carry the base that was opened, or saved or compacted last, and mean
-- it if no edit came after. They were written as a whole then for one that was saved or compacted. Those of a base that
-- was created and neither saved nor compacted are empty.
abbrev pub AreLeft : Seen → Option Carried → Bool → Type 0
AreLeft seen (Some carried) unsaved =
    CarryIt seen carried.base
    × ((unsaved ≡ false → (c : Contents seen) × Means c.index c.names c.games carried.base)
    × (unsaved ≡ false → carried.sound ≡ true → (c : Contents seen) × AreWhole c.index c.names c.games carried.base))
AreLeft seen None unsaved = AreEmpty seen

-- What the files carry if a command was broken off: what they carried before it, or perhaps what it leaves of a base that replaces them.
-- Nothing is said if the base was created and neither saved nor compacted.
abbrev pub StillCarry : Seen → State → Option (Base → Base) → Type 0
StillCarry seen s left =
    IfSome s.shared.carried (λ (carried : Carried). CarryIt seen carried.base ⊎ IsSomeAnd left (λ leaves. CarryIt seen (leaves s.shared.base)))

-- Nothing of a text was written, or the files carry what the state behind its command says, if they carry a base: so they do before the text
-- goes out.
abbrev pub Settled : Seen → State → Option (List ℕ) → Option (List ℕ) → Type 0
Settled seen later told told' = (told' ≡ told) ⊎ IfSome later.shared.carried (λ (carried : Carried). CarryIt seen carried.base)
