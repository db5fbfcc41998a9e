-- Castling: where king and rook stand and go, and which rights there are (FIDE Laws, Article 3.8.2).
use Rattle.std.specs.Prelude.{◌≡◌, ℕ, Bool, ◌&&◌, ◌||◌, not, ◌==◌, List, [], ◌∷◌, Some}
use Rattle.cell_core.specs.declared.man.Colour.{Colour}
use Rattle.cell_core.specs.declared.man.Colour.TheVariants.{White, Black}
use Rattle.cell_core.specs.declared.man.Kind.TheVariants.{King, Rook}
use Rattle.cell_core.specs.declared.step.Move.{Move}
use Rattle.cell_core.specs.Board.{Men, man_at}
use Rattle.cell_core.specs.Man.{man}
use Rattle.chess_laws.specs.declared.setup.Rights.{Rights}
use Rattle.chess_laws.specs.declared.setup.Wing.{Wing}
use Rattle.chess_laws.specs.declared.setup.Wing.TheVariants.{KingSide, QueenSide}

-- The king's home square: e1, e8.
abbrev pub king_home : Colour → ℕ
king_home White = 4
king_home Black = 60

-- The home square of the rook on each wing: h1, a1, h8, a8.
abbrev pub rook_home : Colour → Wing → ℕ
rook_home White KingSide = 7
rook_home White QueenSide = 0
rook_home Black KingSide = 63
rook_home Black QueenSide = 56

-- Where the king goes, two squares towards the rook: g1, c1, g8, c8.
abbrev pub king_target : Colour → Wing → ℕ
king_target White KingSide = 6
king_target White QueenSide = 2
king_target Black KingSide = 62
king_target Black QueenSide = 58

-- Where the rook goes, the square that the king has crossed: f1, d1, f8, d8.
abbrev pub rook_target : Colour → Wing → ℕ
rook_target White KingSide = 5
rook_target White QueenSide = 3
rook_target Black KingSide = 61
rook_target Black QueenSide = 59

-- The squares between king and rook, which must be empty (FIDE Laws, Article 3.8.2.2.2).
abbrev pub between : Colour → Wing → List ℕ
between White KingSide = 5 ∷ 6 ∷ []
between White QueenSide = 1 ∷ 2 ∷ 3 ∷ []
between Black KingSide = 61 ∷ 62 ∷ []
between Black QueenSide = 57 ∷ 58 ∷ 59 ∷ []

-- The king's own square, the one it crosses and its target, which must not be attacked (FIDE Laws, Article 3.8.2.2.1).
abbrev pub king_path : Colour → Wing → List ℕ
king_path c w = king_home c ∷ rook_target c w ∷ king_target c w ∷ []

-- Whether the right to castle on this wing is left.
abbrev pub has_right : Rights → Colour → Wing → Bool
has_right r White KingSide = r.white_king_side
has_right r White QueenSide = r.white_queen_side
has_right r Black KingSide = r.black_king_side
has_right r Black QueenSide = r.black_queen_side

-- Whether the move begins or ends on this square.
abbrev pub touches : Move → ℕ → Bool
touches m s = (m.from == s) || (m.to == s)

-- A right is lost if its king's or its rook's home square is where the move begins or ends: the king or the rook has
-- moved, or the rook was captured (FIDE Laws, Article 3.8.2.1).
abbrev pub keeps : Rights → Move → Colour → Wing → Bool
keeps r m c w = has_right r c w && (not (touches m (king_home c)) && not (touches m (rook_home c w)))

abbrev pub rights_after : Rights → Move → Rights
rights_after r m =
    record {
      white_king_side = keeps r m White KingSide;
      white_queen_side = keeps r m White QueenSide;
      black_king_side = keeps r m Black KingSide;
      black_queen_side = keeps r m Black QueenSide;
    }

-- King and rook stand at home.
pub record StandAtHome (men : Men) (colour : Colour) (wing : Wing) : Type 0 where
  pub king : man_at men (king_home colour) ≡ Some (man colour King)
  pub rook : man_at men (rook_home colour wing) ≡ Some (man colour Rook)
