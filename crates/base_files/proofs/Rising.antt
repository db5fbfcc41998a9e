-- Laws of counts that rise.
use Rattle.std.proofs.Common.{◌≡◌, ℕ, ◌+◌, ◌≤◌, inl, inr, arith}
use Rattle.base_files.specs.Counters.{Rose, raised}

-- What did not fall first and rose later rose.
pub Rose-after : (a b c : ℕ) → a ≤ b → Rose b c → Rose a c
Rose-after a b c h rose = elim rose [ inl p ↦ inl (omega arith) | inr p ↦ inr p ]

-- ---- at least so much more

pub raised-none : (a : ℕ) → raised a 0 ≤ a
raised-none a = omega arith

pub raised-least : (a n b : ℕ) → b ≡ raised a n → raised a n ≤ b
raised-least a n b is = omega (arith, is)

-- What rises by a part and then by another rises by both.
pub raised-more : (a b c m n : ℕ) → raised a m ≤ b → raised b n ≤ c → raised a (m + n) ≤ c
raised-more a b c m n part rest = omega (arith, part, rest)
