-- The bits of an entry. Its 47 bytes are 376 places in their order, in each byte from its highest bit to its lowest (this project's own words).
use Rattle.std.specs.Prelude.{ℕ, ◌+◌, ◌-◌, ◌*◌, ◌/◌, ◌%◌, ◌^◌, List, [], ◌∷◌, length, slice_index}
use Rattle.std.specs.Int.{bit_at}
use Rattle.std.specs.List.{range_with_len}

-- The bit at a place: place p is in byte p div 8, and is there bit 7 - p mod 8, where bit 0 is the lowest.
abbrev pub bit_in : List ℕ → ℕ → ℕ
bit_in bytes place = bit_at (slice_index bytes (place / 8)) (7 - place % 8)

-- The number that the bits at some places spell, the first of them the highest.
unfoldable pub field : List ℕ → List ℕ → ℕ
field bytes [] = 0
field bytes (place ∷ places) = bit_in bytes place * 2 ^ length places + field bytes places

-- So many bits of what begins at a byte, after those that are skipped there, from the highest on.
abbrev pub bits : ℕ → ℕ → ℕ → List ℕ
bits byte skipped count = range_with_len (8 * byte + skipped) count
