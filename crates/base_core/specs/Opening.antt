-- What opening three files answers (this project's own).
use Rattle.std.specs.Prelude.{◌≡◌, ℕ, zero, suc, ◌+◌, Bool, false, ◌&&◌, nat_eq, ⊤, IsTrue, List, length, IfSome}
use Rattle.std.specs.Bool.{MatchBool}
use Rattle.base_files.specs.Seen.{Seen}
use Rattle.index_entry.specs.Entry.{entry_in}
use Rattle.index_entry.specs.Index.{head_in, entry_bytes}
use Rattle.base_core.specs.declared.fault.BaseFault.{BaseFault}
use Rattle.base_core.specs.declared.fault.OpenError.{OpenError}
use Rattle.base_core.specs.declared.fault.OpenError.TheVariants as error
use Rattle.base_core.specs.Base.{Base, empty_base}
use Rattle.base_core.specs.Means.{Means}
use Rattle.base_core.specs.FirstFault.{FirstFault}
use Rattle.base_core.specs.Represents.{Kept, Represents, Mended}

-- A fact about the three contents, if all of them are told.
abbrev pub IfTold : Seen → (List ℕ → List ℕ → List ℕ → Type 0) → Type 0
IfTold seen Fact = IfSome seen.index (λ index. IfSome seen.names (λ names. IfSome seen.games (λ games. Fact index names games)))

-- An index, a names file and a games file of this length are empty.
abbrev pub are_empty : List ℕ → List ℕ → ℕ → Bool
are_empty index names end = nat_eq (length index) 0 && nat_eq (length names) 0 && nat_eq end 0

-- A base is created if that was asked for and its three files are empty.
abbrev pub is_created : Bool → List ℕ → List ℕ → List ℕ → Bool
is_created create index names games = create && are_empty index names (length games)

-- The base that is opened: the empty one if it is created, and else the one that the files mean.
abbrev pub OpensAs : Bool → List ℕ → List ℕ → List ℕ → Base → Type 0
OpensAs create index names games base = MatchBool (is_created create index names games) (base ≡ empty_base) (Means index names games base)

-- The first fault. A base that is created has none, since nothing is looked at.
pub record Refuses (create strict : Bool) (index names games : List ℕ) (fault : BaseFault) : Type 0 where
  pub there : is_created create index names games ≡ false
  pub first : FirstFault strict index names games fault

-- A base was opened: what is kept stands for it, so many of its entries were mended, none if the opening is strict, and the files have no
-- fault.
pub record Opens (create strict : Bool) (index names games : List ℕ) (kept : Kept) (mended : ℕ) : Type 0 where
  pub base : Base
  pub means : OpensAs create index names games base
  pub represents : Represents kept games base
  pub mends : Mended index base.games mended
  pub strictly : IsTrue strict → mended ≡ 0
  pub sound : (fault : BaseFault) → Refuses create strict index names games fault → ⊥
  pub saved : kept.unsaved ≡ false

-- The fact about the fault, if that is the error.
abbrev pub IfBad : (BaseFault → Type 0) → OpenError → Type 0
IfBad Fact (error.Bad fault) = Fact fault
IfBad Fact error.Failed = ⊤
IfBad Fact error.Memory = ⊤

-- The bytes of the records of the first so many games of an index, all told.
abbrev pub records_len : List ℕ → ℕ → ℕ
records_len index zero = 0
records_len index (suc n) = records_len index n + (entry_in (entry_bytes index n)).len

-- The bytes of all its records.
abbrev pub open_cost : List ℕ → ℕ
open_cost index = records_len index (head_in index).games
