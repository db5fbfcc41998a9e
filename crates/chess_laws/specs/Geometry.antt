-- How men move over the board: files, ranks and steps (FIDE Laws, Article 2.4 and 3.2 to 3.8).
use Rattle.std.specs.Prelude.{◌≡◌, ℕ, zero, suc, ◌+◌, ◌-◌, ◌*◌, ◌/◌, ◌%◌, ◌&&◌, nat_lt, nat_le, if◌then◌else◌, List, [], ◌∷◌, ◌++◌, Option, Some, None}
use Rattle.std.specs.Option.{option_and_then, option_map}
use Rattle.cell_core.specs.declared.man.Colour.{Colour}
use Rattle.cell_core.specs.declared.man.Colour.TheVariants.{White, Black}
use Rattle.cell_core.specs.Board.{Men, man_at}

-- The file of a square, a = 0 to h = 7, and its rank, the first = 0 to the eighth = 7 (FIDE Laws, Article 2.4).
abbrev pub file_of : ℕ → ℕ
file_of s = s % 8

abbrev pub rank_of : ℕ → ℕ
rank_of s = s / 8

-- The square of a file and a rank.
abbrev pub square : ℕ → ℕ → ℕ
square file rank = 8 * rank + file

-- A step: so many files to the right and left and so many ranks up and down, as White sees them.
pub record Offset : Type 0 where
  pub right : ℕ
  pub left : ℕ
  pub up : ℕ
  pub down : ℕ

abbrev pub by : ℕ → ℕ → ℕ → ℕ → Offset
by r l u d = record { right = r; left = l; up = u; down = d }

-- A file or a rank that much higher and lower, if it stays from 0 to 7.
abbrev pub line_at : ℕ → ℕ → ℕ → Option ℕ
line_at line up down = if nat_le down (line + up) && nat_lt (line + up) (8 + down) then Some (line + up - down) else None

-- The square that a step leads to, if it stays on the board.
unfoldable pub shift : Offset → ℕ → Option ℕ
shift o s =
    option_and_then (λ file. option_map (square file) (line_at (rank_of s) o.up o.down)) (line_at (file_of s) o.right o.left)

-- Along a file or a rank (FIDE Laws, Article 3.3).
abbrev pub rook_steps : List Offset
rook_steps = by 1 0 0 0 ∷ by 0 1 0 0 ∷ by 0 0 1 0 ∷ by 0 0 0 1 ∷ []

-- Along a diagonal (FIDE Laws, Article 3.2).
abbrev pub bishop_steps : List Offset
bishop_steps = by 1 0 1 0 ∷ by 0 1 1 0 ∷ by 1 0 0 1 ∷ by 0 1 0 1 ∷ []

-- To the nearest squares not on the same rank, file or diagonal (FIDE Laws, Article 3.6).
abbrev pub knight_steps : List Offset
knight_steps =
    by 1 0 2 0 ∷ by 2 0 1 0 ∷ by 2 0 0 1 ∷ by 1 0 0 2
    ∷ by 0 1 2 0 ∷ by 0 2 1 0 ∷ by 0 2 0 1 ∷ by 0 1 0 2 ∷ []

-- To any adjoining square (FIDE Laws, Article 3.8.1).
abbrev pub king_steps : List Offset
king_steps = rook_steps ++ bishop_steps

-- A pawn's way, up the board for White and down for Black (FIDE Laws, Article 3.7.1).
abbrev pub forward : Colour → Offset
forward White = by 0 0 1 0
forward Black = by 0 0 0 1

-- Diagonally in front of a pawn, on an adjacent file (FIDE Laws, Article 3.7.3).
abbrev pub pawn_captures : Colour → List Offset
pawn_captures White = by 1 0 1 0 ∷ by 0 1 1 0 ∷ []
pawn_captures Black = by 1 0 0 1 ∷ by 0 1 0 1 ∷ []

-- Equal steps lead from a to b, over so many empty squares strictly between (FIDE Laws, Article 3.5: over no man).
abbrev pub Walk : Men → Offset → ℕ → ℕ → ℕ → Type 0
Walk men o zero a b = shift o a ≡ Some b
Walk men o (suc n) a b = (c : ℕ) × (shift o a ≡ Some c) × (man_at men c ≡ None) × Walk men o n c b

-- A step leads from a to b.
abbrev pub Leaps : ℕ → ℕ → Offset → Type 0
Leaps a b o = shift o a ≡ Some b

-- Equal steps lead from a to b, every square strictly between being empty.
abbrev pub Runs : Men → ℕ → ℕ → Offset → Type 0
Runs men a b o = (n : ℕ) × Walk men o n a b
