-- Counters that stand still at the greatest u64: the faults of an object, the calls made of it, the bytes asked (this project's own).
use Rattle.std.specs.Prelude.{ℕ, ◌+◌, ◌-◌, ◌^◌, ◌<◌, ◌≤◌, ◌⊎◌, min}

-- The last value of a counter, the greatest u64.
abbrev pub LAST : ℕ
LAST = 2 ^ 64 - 1

-- A counter after n more: it stands still at its last value.
abbrev pub raised : ℕ → ℕ → ℕ
raised count n = min (count + n) LAST

-- A count of faults rose from `old` to `new`, or stands at the counter's last value.
abbrev pub Rose : ℕ → ℕ → Type 0
Rose old new = (old < new) ⊎ (LAST ≤ new)
