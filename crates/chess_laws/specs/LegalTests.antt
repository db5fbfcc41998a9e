-- What the code of legal moves tests on its way. No public contract cites these words.
use Rattle.std.specs.Prelude.{◌≡◌, ℕ, zero, suc, ◌+◌, ◌==◌, ◌&&◌, ◌||◌, if◌then◌else◌, Bool, true, false, nat_lt, nat_le, IsTrue, List, [], ◌++◌, All, Option, Some, None, is_none}
use Rattle.cell_core.specs.declared.man.Colour.{Colour}
use Rattle.cell_core.specs.declared.man.Kind.{Kind}
use Rattle.cell_core.specs.declared.man.Kind.TheVariants.{King, Queen, Rook, Bishop, Knight, Pawn}
use Rattle.cell_core.specs.declared.step.Move.{Move}
use Rattle.cell_core.specs.Board.{Men, man_at}
use Rattle.cell_core.specs.Man.{man, other}
use Rattle.chess_laws.specs.Geometry.{Offset, shift, file_of, rank_of, rook_steps, bishop_steps}
use Rattle.chess_laws.specs.Attacks.{Attacks}
use Rattle.chess_laws.specs.Castling.{between, has_right}
use Rattle.chess_laws.specs.declared.setup.Setup.{Setup}
use Rattle.chess_laws.specs.declared.setup.Wing.{Wing}
use Rattle.chess_laws.specs.declared.effect.Effect.{Effect}
use Rattle.chess_laws.specs.declared.effect.Effect.TheVariants.{Plain, Double, Passing, Castle, Null}

-- The one king of this colour stands on this square.
pub record IsOnlyKing (men : Men) (colour : Colour) (s : ℕ) : Type 0 where
  pub stands : man_at men s ≡ Some (man colour King)
  pub only : (t : ℕ) → man_at men t ≡ Some (man colour King) → t ≡ s

-- The king's square after a move: its target where the king is what moves.
abbrev pub king_after : ℕ → Move → ℕ
king_after king m = if m.from == king then m.to else king

-- No man of this colour attacks one of the three squares.
pub record AreSafe (men : Men) (colour : Colour) (a b c : ℕ) : Type 0 where
  pub first : Attacks men colour a → ⊥
  pub second : Attacks men colour b → ⊥
  pub third : Attacks men colour c → ⊥

-- An enemy of this colour stands on the square.
abbrev pub IsEnemyOn : Men → Colour → ℕ → Type 0
IsEnemyOn men colour s = (k : Kind) × (man_at men s ≡ Some (man (other colour) k))

-- Castling, apart from the safety of the king's path.
pub record MayCastle (p : Setup) (m : Move) (wing : Wing) : Type 0 where
  pub stands : man_at p.board m.from ≡ Some (man p.side King)
  pub right : IsTrue (has_right p.rights p.side wing)
  pub empty : All (λ s. man_at p.board s ≡ None) (between p.side wing)
  pub promo : m.promo ≡ None

-- The row of the queen's step that leads from one square towards the other, where one does.
abbrev pub line_of : ℕ → ℕ → ℕ → ℕ → Option ℕ
line_of fa ra fb rb =
    if ra == rb then (if nat_lt fa fb then Some 0 else if nat_lt fb fa then Some 1 else None)
    else if fa == fb then (if nat_lt ra rb then Some 2 else Some 3)
    else if rb + fa == fb + ra then (if nat_lt ra rb then Some 4 else Some 7)
    else if rb + fb == fa + ra then (if nat_lt ra rb then Some 5 else Some 6)
    else None

unfoldable pub line : ℕ → ℕ → Option ℕ
line a b = line_of (file_of a) (rank_of a) (file_of b) (rank_of b)

-- Whether a man of this kind slides by the step of this row.
abbrev pub glides : Kind → ℕ → Bool
glides King row = false
glides Queen row = nat_lt row 8
glides Rook row = nat_lt row 4
glides Bishop row = nat_le 4 row && nat_lt row 8
glides Knight row = false
glides Pawn row = false

-- The steps by which a man of this kind slides.
abbrev pub slides : Kind → List Offset
slides King = []
slides Queen = rook_steps ++ bishop_steps
slides Rook = rook_steps
slides Bishop = bishop_steps
slides Knight = []
slides Pawn = []

-- Whether a move changes two squares alone, where it begins and where it ends.
abbrev pub is_calm : Effect → Bool
is_calm Plain = true
is_calm Double = true
is_calm Passing = false
is_calm (Castle wing) = false
is_calm Null = false

-- Whether a move takes no man but one on its target.
abbrev pub takes_target : Effect → Bool
takes_target Plain = true
takes_target Double = true
takes_target Passing = false
takes_target (Castle wing) = true
takes_target Null = false

-- Whether a king or a rook that may castle has this square for its home.
abbrev pub is_home_square : ℕ → Bool
is_home_square s = (s == 4) || ((s == 60) || ((s == 0) || ((s == 7) || ((s == 56) || (s == 63)))))
