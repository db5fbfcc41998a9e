-- A walk over the main line of a record (this project's own).
use Rattle.std.specs.Prelude.{ℕ, List}
use Rattle.chess_laws.specs.declared.setup.Setup.{Setup}

-- The bytes that a walk goes over, how many half-moves of the main line were played, and the position that was reached.
pub record Walked : Type 0 where
  pub bytes : List ℕ
  pub ply : ℕ
  pub position : Setup
