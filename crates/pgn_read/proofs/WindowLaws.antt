-- Laws of a window over a source.
use Rattle.std.proofs.Common.{◌≡◌, ◌⊎◌, inl, inr, ◌≤◌, ◌<◌, ◌+◌, ◌*◌, ℕ, Bool, true, false, cond, IsTrue, length, arith}
use Rattle.pgn_read.specs.Readers.{Window}
use Rattle.pgn_read.specs.Window.{waiting}

-- What reading on costs: some of the budget, or the source's end is known from then on.
waits_once : (ended : Bool) → cond ended 0 1 ≤ 1
waits_once true = omega arith
waits_once false = omega arith

pub paid : (old new : Window) (b c : ℕ) → old.ended ≡ false → c + length new.unread ≡ b + length old.unread → c ≤ b
    → IsTrue new.ended ⊎ (2 * length old.unread + 16384 ≤ length new.unread) → c + waiting new < b + waiting old
paid old new b c not_ended sum less (inl ended) = rw ended rw not_ended omega (arith, less)
paid old new b c not_ended sum less (inr more) = rw not_ended omega (arith, sum, more, waits_once new.ended)
