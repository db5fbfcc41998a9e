-- The names that a files object was told to work on (this project's own).
use Rattle.std.specs.Prelude.{ℕ, Bool, List}

-- A name that was given to `choose`, and whether absent files were to be made.
pub record Choice : Type 0 where
  pub name : List ℕ
  pub create : Bool

-- The choice of this name.
abbrev pub choice : List ℕ → Bool → Choice
choice name create = record { name = name; create = create }
