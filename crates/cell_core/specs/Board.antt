-- A board as contracts see it: what stands on each of its squares (FIDE Laws, Article 2.1; their numbers are this project's own).
use Rattle.std.specs.Prelude.{ℕ, Bool, List, Option, None, slice_index_or, slice_set}
use Rattle.std.specs.Option.{option_eq}
use Rattle.std.specs.Cmp.Lexicographic.{pointwise}
use Rattle.cell_core.specs.declared.man.Man.{Man}
use Rattle.cell_core.specs.Man.{same_man}

-- What stands on each of the 64 squares, in the order of their numbers, a1 = 0 to h8 = 63 (this project's own numbering).
abbrev pub Men : Type 0
Men = List (Option Man)

-- What stands on a square, and nothing on a number that names none.
abbrev pub man_at : Men → ℕ → Option Man
man_at men s = slice_index_or men s None

-- The board with this on a square, and every other square as before.
abbrev pub put : Men → ℕ → Option Man → Men
put men s man = slice_set men s man

-- Whether the same men stand on the same squares.
unfoldable pub same_men : Men → Men → Bool
same_men a b = pointwise (option_eq same_man) a b
