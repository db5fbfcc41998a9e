-- Opening codes and their texts (the letters and digits are those of the Encyclopaedia of Chess Openings; the extensions
-- and the numbers are Scid's).
use Rattle.std.specs.Prelude.{ℕ, ◌+◌, ◌-◌, ◌*◌, ◌/◌, ◌%◌, ◌==◌, nat_le, Bool, ◌&&◌, if◌then◌else◌, List, [], ◌∷◌, Option, Some, None, zero, suc}
use Rattle.std.specs.Option.{option_map}

-- The number of a code: a letter from 0 for A to 4 for E, two digits, and an extension from 0 to 130.
abbrev pub eco_number : ℕ → ℕ → ℕ → ℕ → ℕ
eco_number letter tens units extension = 1 + 13100 * letter + 1310 * tens + 131 * units + extension

-- The text of an extension: none of 0, then a small letter with no digit behind it or one from 1 to 4.
abbrev pub extension_text : ℕ → List ℕ
extension_text zero = []
extension_text (suc n) = (97 + n / 5) ∷ (if n % 5 == 0 then [] else (48 + n % 5) ∷ [])

-- The text of a number from 1 to 65,500, as `B15` or `B15a1`; 0 is no code and has the empty text.
unfoldable pub eco_text : ℕ → List ℕ
eco_text zero = []
eco_text (suc n) = (65 + n / 13100) ∷ (48 + n / 1310 % 10) ∷ (48 + n / 131 % 10) ∷ extension_text (n % 131)

abbrev pub is_from : ℕ → ℕ → ℕ → Bool
is_from low high byte = nat_le low byte && nat_le byte high

-- The extension that a text is.
abbrev pub extension_read : List ℕ → Option ℕ
extension_read [] = Some 0
extension_read (letter ∷ []) = if is_from 97 122 letter then Some (1 + 5 * (letter - 97)) else None
extension_read (letter ∷ digit ∷ []) =
    if is_from 97 122 letter && is_from 49 52 digit then Some (1 + 5 * (letter - 97) + (digit - 48)) else None
extension_read (letter ∷ digit ∷ other ∷ others) = None

-- The number that a text is the code of; the empty text is no code.
unfoldable pub eco_read : List ℕ → Option ℕ
eco_read (letter ∷ tens ∷ units ∷ extension) =
    if is_from 65 69 letter && is_from 48 57 tens && is_from 48 57 units
    then option_map (λ n. eco_number (letter - 65) (tens - 48) (units - 48) n) (extension_read extension)
    else None
eco_read _ = None
