-- A board packed into words: this project's own form, in which boards are compared and hashed.
use Rattle.std.specs.Prelude.{ℕ, Bool, ◌+◌, ◌*◌, ◌==◌, ◌≡◌, List, [], ◌∷◌, ◌++◌, map, Option, Some, None, slice_index_or}
use Rattle.std.specs.List.{range_with_len}
use Rattle.std.specs.Int.{bit_at}
use Rattle.cell_core.specs.declared.man.Colour.{Colour}
use Rattle.cell_core.specs.declared.man.Colour.TheVariants.{White, Black}
use Rattle.cell_core.specs.declared.man.Kind.TheVariants.{King, Queen, Rook, Bishop, Knight, Pawn}
use Rattle.cell_core.specs.declared.man.Man.{Man}
use Rattle.cell_core.specs.Board.{Men}
use Rattle.cell_core.specs.Man.{man, kind_number}
use Rattle.cell_core.specs.Sets.{set_of}

-- Four words of 64 bits, a bit a square in each, and the side to move.
pub record Packed : Type 0 where
  pub cells : List ℕ
  pub side : Colour

-- The men of a side, from king to pawn.
abbrev pub men_from : Colour → Men
men_from c = map (λ kind. Some (man c kind)) (King ∷ Queen ∷ Rook ∷ Bishop ∷ Knight ∷ Pawn ∷ [])

-- What a nibble stands for: 0 an empty square, 1 to 6 the white men, 9 to 14 the black ones.
abbrev pub nibble_men : Men
nibble_men = None ∷ men_from White ++ (None ∷ None ∷ men_from Black)

-- The man of a nibble, and none of a nibble of no man.
unfoldable pub man_of : ℕ → Option Man
man_of nibble = slice_index_or nibble_men nibble None

-- The nibble of the white king, or of the black one.
abbrev pub first_nibble : Colour → ℕ
first_nibble White = 1
first_nibble Black = 9

-- The nibble of what stands on a square.
abbrev pub nibble_of : Option Man → ℕ
nibble_of None = 0
nibble_of (Some man) = first_nibble man.colour + kind_number man.kind

-- Whether the nibble of what stands on a square has the bit of this number, the lowest being 0.
abbrev pub has_bit : ℕ → Option Man → Bool
has_bit j man = bit_at (nibble_of man) j == 1

-- The words of the 64 squares: the four bits of each square's nibble are spread over them, as the square's bit in each.
unfoldable pub cells_of : Men → List ℕ
cells_of men = set_of (has_bit 0) men ∷ set_of (has_bit 1) men ∷ set_of (has_bit 2) men ∷ set_of (has_bit 3) men ∷ []

-- The nibble of a square, gathered from the words.
unfoldable pub nibble_at : List ℕ → ℕ → ℕ
nibble_at cells s =
    bit_at (slice_index_or cells 0 0) s + 2 * bit_at (slice_index_or cells 1 0) s + 4 * bit_at (slice_index_or cells 2 0) s
    + 8 * bit_at (slice_index_or cells 3 0) s

-- The 64 squares of words.
unfoldable pub men_of : List ℕ → Men
men_of cells = map (λ s. man_of (nibble_at cells s)) (range_with_len 0 64)

-- The packed form of a board and a side to move.
abbrev pub packed_of : Men → Colour → Packed
packed_of men to_move = record { cells = cells_of men; side = to_move }

-- Four words that stand for squares: they are the words of these.
abbrev pub ArePacked : List ℕ → Type 0
ArePacked cells = cells_of (men_of cells) ≡ cells
