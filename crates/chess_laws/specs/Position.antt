-- What a position is, and the rules that every position keeps (FIDE Laws, Article 2.2, 2.3, 3.7.3.3
-- and 3.9.2; the others are this project's own).
use Rattle.std.specs.Prelude.{◌≡◌, ℕ, ◌+◌, ◌/◌, ◌%◌, ◌^◌, ◌<◌, ◌≤◌, ◌==◌, ◌&&◌, ◌++◌, Bool, if◌then◌else◌, IsTrue, [], ◌∷◌, Option, Some, None, is_none, length, replicate, count_by, map}
use Rattle.std.specs.List.{position_or_len}
use Rattle.cell_core.specs.declared.man.Colour.{Colour}
use Rattle.cell_core.specs.declared.man.Colour.TheVariants.{White, Black}
use Rattle.cell_core.specs.declared.man.Kind.TheVariants.{King, Queen, Rook, Bishop, Knight, Pawn}
use Rattle.cell_core.specs.Board.{Men, man_at, same_men}
use Rattle.cell_core.specs.Man.{man, other, is_man, is_of, same_colour}
use Rattle.chess_laws.specs.declared.setup.Rights.{Rights}
use Rattle.chess_laws.specs.declared.setup.Setup.{Setup}
use Rattle.chess_laws.specs.declared.setup.Wing.{Wing}
use Rattle.chess_laws.specs.declared.setup.Wing.TheVariants.{KingSide, QueenSide}
use Rattle.chess_laws.specs.declared.fault.PlaceFault.{PlaceFault}
use Rattle.chess_laws.specs.declared.fault.PlaceFault.TheVariants.{Kings, Pawns, TooMany, InCheck, EnPassant}
use Rattle.chess_laws.specs.Geometry.{rank_of}
use Rattle.chess_laws.specs.Attacks.{IsInCheck}
use Rattle.chess_laws.specs.Castling.{StandAtHome, has_right, king_home, rook_home}

-- The first square with the king of this colour.
abbrev pub king_square : Men → Colour → ℕ
king_square men c = position_or_len (is_man c King) men

-- Each side has one king (FIDE Laws, Article 2.2).
abbrev pub HasKings : Men → Type 0
HasKings men = (c : Colour) → count_by (is_man c King) men ≡ 1

-- No pawn stands on the first or the last rank: one that came there was promoted (FIDE Laws, Article 3.7.3.3).
abbrev pub HasPawnsInside : Men → Type 0
HasPawnsInside men = (s : ℕ) (c : Colour) → man_at men s ≡ Some (man c Pawn) → (0 < rank_of s) × (rank_of s < 7)

-- Each side has at most sixteen men (FIDE Laws, Article 2.2).
abbrev pub HasFewMen : Men → Type 0
HasFewMen men = (c : Colour) → count_by (is_of c) men ≤ 16

-- The rank of an en passant square, by the side to move: the sixth for White, the third for Black.
abbrev pub en_passant_rank : Colour → ℕ
en_passant_rank White = 5
en_passant_rank Black = 2

-- An en passant square stands on that rank.
abbrev pub HasFitEnPassant : Colour → Option ℕ → Type 0
HasFitEnPassant c None = Unit {0}
HasFitEnPassant c (Some s) = rank_of s ≡ en_passant_rank c

-- A right is left only if its king and rook stand at home.
abbrev pub HasFitRights : Setup → Type 0
HasFitRights p = (c : Colour) (w : Wing) → IsTrue (has_right p.rights c w) → StandAtHome p.board c w

-- The rules of a position: those above, and the side that is not to move is not in check (FIDE Laws, Article 3.9.2).
pub record Sound (p : Setup) : Type 0 where
  pub squares : length p.board ≡ 64
  pub kings : HasKings p.board
  pub pawns : HasPawnsInside p.board
  pub few : HasFewMen p.board
  pub not_in_check : IsInCheck p.board (other p.side) → ⊥
  pub rights : HasFitRights p
  pub en_passant : HasFitEnPassant p.side p.en_passant

-- The first of these rules that a setup breaks, in the order kings, pawns, men, check, en passant square.
abbrev pub Breaks : Setup → PlaceFault → Type 0
Breaks p Kings = HasKings p.board → ⊥
Breaks p Pawns = HasKings p.board × (HasPawnsInside p.board → ⊥)
Breaks p TooMany = HasKings p.board × HasPawnsInside p.board × (HasFewMen p.board → ⊥)
Breaks p InCheck = HasKings p.board × HasPawnsInside p.board × HasFewMen p.board × IsInCheck p.board (other p.side)
Breaks p EnPassant =
    HasKings p.board × HasPawnsInside p.board × HasFewMen p.board × (IsInCheck p.board (other p.side) → ⊥)
    × (HasFitEnPassant p.side p.en_passant → ⊥)

-- Rights as bits: 0 for White's king's side, 1 for White's queen's side, 2 and 3 for Black's (this project's own).
abbrev pub has_bit : ℕ → ℕ → Bool
has_bit bits k = (bits / 2 ^ k) % 2 == 1

abbrev pub bits_of : Rights → ℕ
bits_of r =
    (if r.white_king_side then 1 else 0) + (if r.white_queen_side then 2 else 0)
    + (if r.black_king_side then 4 else 0) + (if r.black_queen_side then 8 else 0)

-- Whether king and rook stand at home, so that a right can stand.
abbrev pub is_at_home : Men → Colour → Wing → Bool
is_at_home men c w = is_man c King (man_at men (king_home c)) && is_man c Rook (man_at men (rook_home c w))

-- The rights of these bits, without those whose king or rook is not at home.
abbrev pub rights_of : Men → ℕ → Rights
rights_of men bits =
    record {
      white_king_side = has_bit bits 0 && is_at_home men White KingSide;
      white_queen_side = has_bit bits 1 && is_at_home men White QueenSide;
      black_king_side = has_bit bits 2 && is_at_home men Black KingSide;
      black_queen_side = has_bit bits 3 && is_at_home men Black QueenSide;
    }

-- The setup of a board, a side, the bits of the rights and an en passant square.
abbrev pub setup_of : Men → Colour → ℕ → Option ℕ → Setup
setup_of men c bits square = record { board = men; side = c; rights = rights_of men bits; en_passant = square }

-- The men of a back rank from file a to h (FIDE Laws, Article 2.3).
abbrev pub back_rank : Colour → Men
back_rank c = map (λ kind. Some (man c kind)) (Rook ∷ Knight ∷ Bishop ∷ Queen ∷ King ∷ Bishop ∷ Knight ∷ Rook ∷ [])

-- The initial position, with all four rights (FIDE Laws, Article 2.3).
abbrev pub start_men : Men
start_men =
    back_rank White ++ (replicate 8 (Some (man White Pawn)) ++ (replicate 32 None
    ++ (replicate 8 (Some (man Black Pawn)) ++ back_rank Black)))

abbrev pub start_setup : Setup
start_setup = setup_of start_men White 15 None

-- Whether it is the initial position: its men, White to move, all four rights and no en passant square.
unfoldable pub is_start : Setup → Bool
is_start p = same_men p.board start_men && (same_colour p.side White && ((bits_of p.rights == 15) && is_none p.en_passant))
