-- The ten counts in two words, a byte each (this project's own).
use Rattle.std.specs.Prelude.{◌≡◌, ◌==◌, ℕ, ◌+◌, ◌-◌, ◌*◌, ◌/◌, ◌%◌, ◌^◌, ◌<◌, if◌then◌else◌, List, [], ◌∷◌, slice_index_or}
use Rattle.std.proofs.Common.{arith}
use Rattle.std.proofs.lemmas.Nat.{shr-shr}
use Rattle.cell_core.specs.declared.man.Kind.{Kind}
use Rattle.cell_core.specs.declared.man.Kind.TheVariants.{King, Queen, Rook, Bishop, Knight, Pawn}

-- The byte of a word from this bit on.
abbrev pub byte_in : ℕ → ℕ → ℕ
byte_in word shift = word / 2 ^ shift % 256

-- The ten bytes of a word for White and one for Black.
abbrev pub ten_in : ℕ → ℕ → List ℕ
ten_in white black =
    byte_in white 0 ∷ byte_in white 8 ∷ byte_in white 16 ∷ byte_in white 24 ∷ byte_in white 32
    ∷ byte_in black 0 ∷ byte_in black 8 ∷ byte_in black 16 ∷ byte_in black 24 ∷ byte_in black 32
    ∷ []

-- The word of five counts, and of the five from this place on.
abbrev pub five_of : ℕ → ℕ → ℕ → ℕ → ℕ → ℕ
five_of queens rooks bishops knights pawns = queens + 256 * (rooks + 256 * (bishops + 256 * (knights + 256 * pawns)))

abbrev pub ten_of : List ℕ → ℕ → ℕ
ten_of counts place =
    five_of (slice_index_or counts place 0) (slice_index_or counts (place + 1) 0) (slice_index_or counts (place + 2) 0)
    (slice_index_or counts (place + 3) 0) (slice_index_or counts (place + 4) 0)

-- Each word has five bytes.
pub record AreWords (white black : ℕ) : Type 0 where
  pub of_white : white < 2 ^ 40
  pub of_black : black < 2 ^ 40

-- The five bytes give the word back.
pub five_back : (word : ℕ) → word < 2 ^ 40 → five_of (byte_in word 0) (byte_in word 8) (byte_in word 16) (byte_in word 24) (byte_in word 32) ≡ word
five_back word less = omega (arith, shr-shr word 8 8, shr-shr word 16 8, shr-shr word 24 8)

-- One less in the byte from this bit on, unless that byte is 0, and in the byte of a kind.
abbrev pub less_at : ℕ → ℕ → ℕ
less_at word shift = if byte_in word shift == 0 then word else word - 2 ^ shift

abbrev pub less_of : ℕ → Kind → ℕ
less_of word King = word
less_of word Queen = less_at word 0
less_of word Rook = less_at word 8
less_of word Bishop = less_at word 16
less_of word Knight = less_at word 24
less_of word Pawn = less_at word 32
