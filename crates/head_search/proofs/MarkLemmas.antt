-- Bits that no marks have.
use Rattle.std.proofs.Common.{◌≡◌, ◌<◌, ◌≤◌, ◌==◌, ◌^◌, ℕ, false, sym, ap}
use Rattle.std.specs.Int.{bit_at}
use Rattle.std.proofs.lemmas.Nat.Bits.{bit_at_above}

pub none_above : (marks bit : ℕ) → marks < 2 ^ 32 → 32 ≤ bit → false ≡ (bit_at marks bit == 1)
none_above marks bit few above = sym (ap (λ (b : ℕ). b == 1) (bit_at_above marks 32 bit few above))
