-- A walk over all lines of a record (this project's own).
use Rattle.std.specs.Prelude.{ℕ, Bool, List}
use Rattle.chess_laws.specs.declared.setup.Setup.{Setup}

-- The bytes that the walk goes over, and how many moves it gave. Of the line in which it stands it has the position,
-- the number of moves that led there from the game's start, and whether it is the main line.
pub record AllWalked : Type 0 where
  pub bytes : List ℕ
  pub given : ℕ
  pub position : Setup
  pub ply : ℕ
  pub on_main : Bool
