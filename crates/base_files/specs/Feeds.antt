-- A source in memory (this project's own).
use Rattle.std.specs.Prelude.{ℕ, ◌-◌, ◌==◌, Bool, ◌||◌, ◌&&◌, is_none, min, List, drop, Option, None, Some}
use Rattle.base_files.specs.Planned.{Calls, is_planned, passed, failed}

-- The bytes left if they are told, how many it gives still, how many it gives at most in one call, and its calls.
pub record Feed : Type 0 where
  pub left : Option (List ℕ)
  pub budget : ℕ
  pub most : ℕ
  pub calls : Calls

-- What is told, without its first `count` bytes.
abbrev pub told_after : ℕ → Option (List ℕ) → Option (List ℕ)
told_after count None = None
told_after count (Some told) = Some (drop count told)

-- How many bytes a call gives that has room for so many.
abbrev pub given_into : Feed → ℕ → ℕ
given_into feed room = min (min feed.most room) feed.budget

-- After a call that gave `count` bytes.
abbrev pub after_giving : Feed → ℕ → Feed
after_giving feed count = record { left = told_after count feed.left; budget = feed.budget - count; most = feed.most; calls = passed feed.calls }

-- After a fault.
abbrev pub after_fault : Feed → Feed
after_fault feed = record feed { calls = failed feed.calls }

-- The next call fails: it is planned to, or the source has no end and its budget is spent.
abbrev pub is_spent : Feed → Bool
is_spent feed = is_planned feed.calls || (is_none feed.left && (feed.budget == 0))
