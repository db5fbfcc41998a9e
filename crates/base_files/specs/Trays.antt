-- A sink in memory (this project's own).
use Rattle.std.specs.Prelude.{ℕ, List, ◌++◌, take, length, min}
use Rattle.base_files.specs.Planned.{Calls, passed}

-- The bytes taken, how many it takes at most in one call, and its calls.
pub record Tray : Type 0 where
  pub taken : List ℕ
  pub most : ℕ
  pub calls : Calls

-- How many bytes of the piece a call takes.
abbrev pub taken_of : Tray → List ℕ → ℕ
taken_of tray piece = min tray.most (length piece)

-- After a call that took the front of the piece.
abbrev pub after_taking : Tray → List ℕ → Tray
after_taking tray piece = record { taken = tray.taken ++ take (taken_of tray piece) piece; most = tray.most; calls = passed tray.calls }
