-- The ones of a word (this project's own). No public contract cites these words.
use Rattle.std.specs.Prelude.{◌≡◌, ◌≢◌, ℕ}
use Rattle.std.specs.Int.{bit_at}

-- A word with zeros where another has them, and at one more place.
pub record Drops (s word after : ℕ) : Type 0 where
  pub gone : bit_at after s ≡ 0
  pub but : (i : ℕ) → bit_at after i ≡ 0 → i ≢ s → bit_at word i ≡ 0
  pub kept : (i : ℕ) → bit_at word i ≡ 0 → bit_at after i ≡ 0
