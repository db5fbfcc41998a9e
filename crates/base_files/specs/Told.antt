-- Contents that an object may tell: `Some` of the bytes, or `None` from an object that tells nothing (this project's
-- own).
use Rattle.std.specs.Prelude.{◌≡◌, ℕ, List, ◌++◌, take, drop, length, ⊤, Option, None, Some}

-- What is told after the bytes are added at its end: an object that tells nothing goes on telling nothing.
abbrev pub adds : Option (List ℕ) → List ℕ → Option (List ℕ)
adds None bytes = None
adds (Some told) bytes = Some (told ++ bytes)

-- The bytes, and then what is told.
abbrev pub before : List ℕ → Option (List ℕ) → Option (List ℕ)
before bytes None = None
before bytes (Some told) = Some (bytes ++ told)

-- `bytes` is what is told, if anything is.
abbrev pub Tells : Option (List ℕ) → List ℕ → Type 0
Tells None bytes = ⊤
Tells (Some told) bytes = bytes ≡ told

-- `count` is the number of bytes told, if they are.
abbrev pub TellsLength : Option (List ℕ) → ℕ → Type 0
TellsLength None count = ⊤
TellsLength (Some told) count = count ≡ length told

-- The `count` bytes from `place` on, of what is told.
abbrev pub part_told : Option (List ℕ) → ℕ → ℕ → Option (List ℕ)
part_told None place count = None
part_told (Some told) place count = Some (take count (drop place told))

-- `whole` is `front`, and then other bytes or none.
abbrev pub IsPrefix : List ℕ → List ℕ → Type 0
IsPrefix front whole = (rest : List ℕ) × (whole ≡ front ++ rest)

-- What was told before is the beginning of what is told now: an object that tells goes on telling.
abbrev pub Grew : Option (List ℕ) → Option (List ℕ) → Type 0
Grew None None = ⊤
Grew None (Some new) = ⊥
Grew (Some old) None = ⊥
Grew (Some old) (Some new) = IsPrefix old new

-- What is told now is the end of what was told before: an object that tells goes on telling.
abbrev pub Advanced : Option (List ℕ) → Option (List ℕ) → Type 0
Advanced None None = ⊤
Advanced None (Some new) = ⊥
Advanced (Some old) None = ⊥
Advanced (Some old) (Some new) = (front : List ℕ) × (old ≡ front ++ new)
