-- Which squares a side attacks (FIDE Laws, Article 3.1 to 3.8).
use Rattle.std.specs.Prelude.{◌≡◌, ℕ, ◌<◌, Any, ◌++◌, Some}
use Rattle.cell_core.specs.declared.man.Colour.{Colour}
use Rattle.cell_core.specs.declared.man.Kind.{Kind}
use Rattle.cell_core.specs.declared.man.Kind.TheVariants.{King, Queen, Rook, Bishop, Knight, Pawn}
use Rattle.cell_core.specs.Board.{Men, man_at}
use Rattle.cell_core.specs.Man.{man, other}
use Rattle.chess_laws.specs.Geometry.{rook_steps, bishop_steps, knight_steps, king_steps, pawn_captures, Leaps, Runs}

-- Such a man, standing on a, reaches b by its geometry over empty squares. A pawn reaches the two squares diagonally in
-- front of it (FIDE Laws, Article 3.2 bishop, 3.3 rook, 3.4 queen, 3.6 knight, 3.7.3 pawn, 3.8.1 king).
abbrev pub Reaches : Men → Colour → Kind → ℕ → ℕ → Type 0
Reaches men colour King a b = Any (Leaps a b) king_steps
Reaches men colour Queen a b = Any (Runs men a b) (rook_steps ++ bishop_steps)
Reaches men colour Rook a b = Any (Runs men a b) rook_steps
Reaches men colour Bishop a b = Any (Runs men a b) bishop_steps
Reaches men colour Knight a b = Any (Leaps a b) knight_steps
Reaches men colour Pawn a b = Any (Leaps a b) (pawn_captures colour)

-- A man of this colour and kind attacks the square s.
pub record AttacksAs (men : Men) (colour : Colour) (kind : Kind) (s : ℕ) : Type 0 where
  pub from : ℕ
  pub on_board : from < 64
  pub stands : man_at men from ≡ Some (man colour kind)
  pub reaches : Reaches men colour kind from s

-- Some man of the colour attacks the square s (FIDE Laws, Article 3.1.2).
abbrev pub Attacks : Men → Colour → ℕ → Type 0
Attacks men colour s = (kind : Kind) × AttacksAs men colour kind s

-- The king of this colour is under attack: it is in check (FIDE Laws, Article 3.9.1).
abbrev pub IsInCheck : Men → Colour → Type 0
IsInCheck men colour = (s : ℕ) × (man_at men s ≡ Some (man colour King)) × Attacks men (other colour) s
