use Rattle.std.proofs.Common.{◌≡◌, ◌<◌, ℕ, length, get_or}
use Rattle.index_entry.specs.Reading.{home_at}
use Rattle.index_entry.proofs.unpacking.home_of.Given as goal

abbrev pub invariant-loop-i : goal.invariant-loop-i
invariant-loop-i l = (length l.home ≡ 16) × ((k : ℕ) → k < l.i → get_or l.home k 0 ≡ home_at l.b k)
