-- Why mending stops, and what it has done of the new files, as the functions of this crate go through it.
use Rattle.std.specs.Prelude.{◌≡◌, ◌+◌, ⊤, ℕ, List, length, IfSome, Option}
use Rattle.base_files.specs.Counters.{Rose}
use Rattle.base_files.specs.Seen.{Seen}
use Rattle.base_core.specs.Base.{Base}
use Rattle.base_core.specs.Opening.{IfTold}
use Rattle.base_core.specs.Represents.{Kept, Represents}
use Rattle.base_core.specs.Saved.{OpensAgain}
use Rattle.base_core.specs.declared.fault.What.{What}
use Rattle.index_entry.specs.declared.index.IndexHead.{IndexHead}
use Rattle.name_base.specs.PartNames.{PartLists}
use Rattle.mend_base.specs.Mending.{HasMended, IsTooMuch}
use Rattle.mend_base.specs.declared.fault.MendError.{MendError}
use Rattle.mend_base.specs.declared.fault.MendError.TheVariants as error
use Rattle.mend_base.specs.declared.ways.Way.{Way}
use Rattle.mend_base.specs.declared.report.Note.{Note}

-- The new base would be full as the fact says, or a device failed, or memory ran out.
abbrev pub WhyStopped : (What → Type 0) → MendError → Type 0
WhyStopped Fact (error.Bad fault) = ⊥
WhyStopped Fact (error.Full what) = Fact what
WhyStopped Fact _ = ⊤

-- The new files failed, or the new base would be full, or memory ran out.
abbrev pub IsKeeping : ℕ → ℕ → MendError → Type 0
IsKeeping before after error.NewFailed = Rose before after
IsKeeping before after (error.Full what) = ⊤
IsKeeping before after error.Memory = ⊤
IsKeeping before after _ = ⊥

-- Where the games before this one were mended, this one is too now, and so many more are changed.
abbrev pub MendsNext : ℕ → Way → List ℕ → PartLists → List ℕ → Option (List Note) → Option (List Note) → ℕ → Kept → Kept → Option (List ℕ) → Option (List ℕ) → Type 0
MendsNext game way index names games told now more draft after file fresh =
    (header : IndexHead) (before : Option (List Note)) (changed : ℕ) → HasMended game header way index names games before told changed draft file →
    HasMended (game + 1) header way index names games before now (changed + more) after fresh

-- Where they were, the base of them with this one would be full.
abbrev pub FillsNext : ℕ → Way → List ℕ → PartLists → List ℕ → Option (List Note) → Kept → Option (List ℕ) → What → Type 0
FillsNext game way index names games told draft file what =
    (header : IndexHead) (before : Option (List Note)) (changed : ℕ) → HasMended game header way index names games before told changed draft file → IsTooMuch way index names games what

-- The new games file is the one that was made; where the draft stands for a base beside it, the new files mean the base and open as it.
pub record PutsIt (draft : Kept) (old new : Seen) : Type 0 where
  pub games : new.games ≡ old.fresh
  pub opens : IfTold new (λ i n g. (base : Base) → length g ≡ draft.end → Represents draft g base → OpensAgain i n g base)
