-- The table of the ways between squares, which the code reads. No public contract cites these words.
use Rattle.std.specs.Prelude.{ℕ, ◌+◌, ◌-◌, ◌*◌, ◌/◌, ◌==◌, nat_le, Bool, List, slice_index_or, Option, Some, None}
use Rattle.std.proofs.Common.{true}
use Rattle.std.proofs.lemmas.Bool.{agree_below}
use Rattle.chess_laws.specs.LegalTests.{line}

-- The number of a square on a board of sixteen files, on which a difference of numbers tells files and ranks apart.
abbrev pub spread : ℕ → ℕ
spread s = s + 8 * (s / 8)

-- What a table says of the way from a to b.
abbrev pub way : List ℕ → ℕ → ℕ → ℕ
way table a b = slice_index_or table (119 - spread a + spread b) 0

-- Whether a number is the row of a queen's step, or is no row if there is no such step.
abbrev pub is_row : Option ℕ → ℕ → Bool
is_row None n = nat_le 8 n
is_row (Some row) n = n == row

-- Whether a table says so of any two squares.
unfoldable pub names_lines : List ℕ → Bool
names_lines table = agree_below (λ a. agree_below (λ b. is_row (line a b) (way table a b)) (λ b. true) 64) (λ a. true) 64
