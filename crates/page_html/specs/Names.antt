-- The names of the pages of positions (this project's own).
use Rattle.std.specs.Prelude.{ℕ, zero, suc, ◌+◌, nat_lt, if◌then◌else◌, List, [], ◌∷◌, ◌++◌, codes}
use Rattle.cell_core.specs.declared.man.Colour.{Colour}
use Rattle.cell_core.specs.declared.man.Colour.TheVariants.{White, Black}
use Rattle.cell_core.specs.Board.{Men, man_at}
use Rattle.cell_core.specs.Packed.{Packed, men_of, nibble_of}

-- A digit from 0 to f.
abbrev pub hex_digit : ℕ → ℕ
hex_digit number = if nat_lt number 10 then 48 + number else 87 + number

-- The digits of the squares below one: 0 for an empty one, 1 to 6 for the white men from king to pawn, 9 to e for the black ones.
unfoldable pub digits_below : Men → ℕ → List ℕ
digits_below men zero = []
digits_below men (suc s) = digits_below men s ++ hex_digit (nibble_of (man_at men s)) ∷ []

-- What stands behind the digits.
abbrev pub side_text : Colour → List ℕ
side_text White = codes "w.html"
side_text Black = codes "b.html"

-- The name of the file of a position.
unfoldable pub file_of : Packed → List ℕ
file_of packed = digits_below (men_of packed.cells) 64 ++ side_text packed.side
