-- What waits to be written. This project's own.
use Rattle.std.specs.Prelude.{ℕ, Bool, true, List, []}

-- The bytes that wait, with their tags; whether a line begins behind them; and how many writes of the text failed.
pub record Waiting : Type 0 where
  pub bytes : List ℕ
  pub begins : Bool
  pub faults : ℕ

-- Nothing waits, a line begins, and nothing failed.
abbrev pub none_waits : Waiting
none_waits = record { bytes = []; begins = true; faults = 0 }
