-- The moves of chess: which are legal, and what they lead to (FIDE Laws, Article 3).
use Rattle.std.specs.List.{list_any}
use Rattle.std.specs.Option.{option_map, option_map_or, option_or}
use Rattle.std.specs.Prelude.{◌≡◌, ℕ, ◌+◌, ◌&&◌, not, ◌==◌, ◌⊎◌, [], ◌∷◌, Bool, true, false, if◌then◌else◌, IsTrue, All, Any, Option, Some, None, is_none, is_some}
use Rattle.cell_core.specs.declared.man.Colour.{Colour}
use Rattle.cell_core.specs.declared.man.Colour.TheVariants.{White, Black}
use Rattle.cell_core.specs.declared.man.Kind.{Kind}
use Rattle.cell_core.specs.declared.man.Kind.TheVariants.{King, Queen, Rook, Bishop, Knight, Pawn}
use Rattle.cell_core.specs.declared.man.Man.{Man}
use Rattle.cell_core.specs.declared.step.Move.{Move}
use Rattle.cell_core.specs.Board.{Men, man_at, put}
use Rattle.cell_core.specs.Man.{man, other, same_kind}
use Rattle.chess_laws.specs.declared.setup.Rights.{Rights}
use Rattle.chess_laws.specs.declared.setup.Setup.{Setup}
use Rattle.chess_laws.specs.declared.setup.Wing.{Wing}
use Rattle.chess_laws.specs.declared.setup.Wing.TheVariants.{KingSide, QueenSide}
use Rattle.chess_laws.specs.declared.effect.Effect.{Effect}
use Rattle.chess_laws.specs.declared.effect.Effect.TheVariants.{Plain, Double, Passing, Castle, Null}
use Rattle.chess_laws.specs.Geometry.{file_of, rank_of, square, forward, pawn_captures, Leaps, Walk}
use Rattle.chess_laws.specs.Attacks.{Attacks, Reaches, IsInCheck}
use Rattle.chess_laws.specs.Castling.{king_home, king_target, rook_home, rook_target, between, king_path, has_right, rights_after}
use Rattle.chess_laws.specs.Position.{en_passant_rank}

-- A pawn's own rank, and the last rank of its way, where it is promoted.
abbrev pub pawn_rank : Colour → ℕ
pawn_rank White = 1
pawn_rank Black = 6

abbrev pub last_rank : Colour → ℕ
last_rank White = 7
last_rank Black = 0

-- Whether a move goes two ranks forward, and whether it changes the file.
abbrev pub goes_two : Colour → Move → Bool
goes_two White m = rank_of m.to == rank_of m.from + 2
goes_two Black m = rank_of m.from == rank_of m.to + 2

abbrev pub changes_file : Move → Bool
changes_file m = not (file_of m.to == file_of m.from)

-- What kind of move it is, by the man that stands on its first square: a plain one, unless it is
--
-- - a pawn's double step,
-- - a pawn's capture en passant, diagonally to an empty square,
-- - castling, from the king's home square to its target,
-- - the null move, on which the king stays.
abbrev pub effect_as : Kind → Setup → Move → Effect
effect_as King p m =
    if m.to == m.from then Null
    else if (m.from == king_home p.side) && (m.to == king_target p.side KingSide) then Castle KingSide
    else if (m.from == king_home p.side) && (m.to == king_target p.side QueenSide) then Castle QueenSide
    else Plain
effect_as Pawn p m =
    if goes_two p.side m then Double
    else if changes_file m && is_none (man_at p.board m.to) then Passing
    else Plain
effect_as _ p m = Plain

abbrev pub effect_of : Setup → Move → Effect
effect_of p m = option_map_or (λ standing. effect_as standing.kind p m) (man_at p.board m.from) Plain

-- No man of this colour stands on the square.
abbrev pub HasNoOwn : Men → Colour → ℕ → Type 0
HasNoOwn men c s = (k : Kind) → man_at men s ≡ Some (man c k) → ⊥

-- A plain move of a man of this kind. A pawn goes one square forward to an empty square, or captures an enemy man
-- diagonally in front of it (FIDE Laws, Article 3.7.1 and 3.7.3). Any other man goes where it reaches, and the target
-- holds no man of its own side (FIDE Laws, Article 3.1 to 3.6 and 3.8.1).
abbrev pub GoesPlainly : Setup → Kind → Move → Type 0
GoesPlainly p Pawn m =
    (Leaps m.from m.to (forward p.side) × (man_at p.board m.to ≡ None))
    ⊎ (Any (Leaps m.from m.to) (pawn_captures p.side) × ((k : Kind) × (man_at p.board m.to ≡ Some (man (other p.side) k))))
GoesPlainly p k m = Reaches p.board p.side k m.from m.to × HasNoOwn p.board p.side m.to

-- A pawn that comes to the last rank becomes a queen, rook, bishop or knight (FIDE Laws, Article 3.7.3.3); no other move
-- names a man.
abbrev pub may_become : Option Kind → Bool
may_become promo = option_map_or (λ kind. list_any (same_kind kind) (Queen ∷ Rook ∷ Bishop ∷ Knight ∷ [])) promo false

abbrev pub promotes_rightly : Colour → Kind → Move → Bool
promotes_rightly c k m = if same_kind k Pawn && (rank_of m.to == last_rank c) then may_become m.promo else is_none m.promo

-- A plain move or capture.
pub record PlainCase (p : Setup) (m : Move) : Type 0 where
  pub kind : Kind
  pub stands : man_at p.board m.from ≡ Some (man p.side kind)
  pub goes : GoesPlainly p kind m
  pub promotes : IsTrue (promotes_rightly p.side kind m)

-- A pawn's first move of two squares, both empty (FIDE Laws, Article 3.7.2).
pub record DoubleCase (p : Setup) (m : Move) : Type 0 where
  pub stands : man_at p.board m.from ≡ Some (man p.side Pawn)
  pub own_rank : rank_of m.from ≡ pawn_rank p.side
  pub walks : Walk p.board (forward p.side) 1 m.from m.to
  pub target : man_at p.board m.to ≡ None
  pub promo : m.promo ≡ None

-- The square of the pawn that is captured en passant: on the mover's rank and the target's file.
abbrev pub passed_square : Move → ℕ
passed_square m = square (file_of m.to) (rank_of m.from)

-- A pawn's capture en passant of the pawn that has just crossed the en passant square (FIDE Laws, Article 3.7.3.1).
pub record PassingCase (p : Setup) (m : Move) : Type 0 where
  pub stands : man_at p.board m.from ≡ Some (man p.side Pawn)
  pub goes : Any (Leaps m.from m.to) (pawn_captures p.side)
  pub target : p.en_passant ≡ Some m.to
  pub empty : man_at p.board m.to ≡ None
  pub passed : man_at p.board (passed_square m) ≡ Some (man (other p.side) Pawn)
  pub promo : m.promo ≡ None

-- Castling (FIDE Laws, Article 3.8.2).
pub record CastleCase (p : Setup) (m : Move) (wing : Wing) : Type 0 where
  pub stands : man_at p.board m.from ≡ Some (man p.side King)
  pub right : IsTrue (has_right p.rights p.side wing)
  pub empty : All (λ s. man_at p.board s ≡ None) (between p.side wing)
  pub safe : All (λ s. Attacks p.board (other p.side) s → ⊥) (king_path p.side wing)
  pub promo : m.promo ≡ None

-- The null move: the mover passes, which is allowed if it is not in check (this project's own).
pub record NullCase (p : Setup) (m : Move) : Type 0 where
  pub stands : man_at p.board m.from ≡ Some (man p.side King)
  pub stays : m.to ≡ m.from
  pub promo : m.promo ≡ None
  pub safe : IsInCheck p.board p.side → ⊥

-- The move is allowed by the rules of its kind.
abbrev pub Case : Setup → Move → Effect → Type 0
Case p m Plain = PlainCase p m
Case p m Double = DoubleCase p m
Case p m Passing = PassingCase p m
Case p m (Castle wing) = CastleCase p m wing
Case p m Null = NullCase p m

-- The man that arrives: the one that moved, or what it is promoted to.
abbrev pub arriving : Setup → Move → Option Kind → Option Man
arriving p m promo = option_or (option_map (man p.side) promo) (man_at p.board m.from)

-- The board after the man has moved to its target, where it captures what stands there.
abbrev pub moved : Setup → Move → Men
moved p m = put (put p.board m.from None) m.to (arriving p m m.promo)

-- The board after a move: en passant takes the passed pawn away, castling moves the rook too.
abbrev pub board_after : Setup → Move → Effect → Men
board_after p m Passing = put (moved p m) (passed_square m) None
board_after p m (Castle wing) = put (put (moved p m) (rook_home p.side wing) None) (rook_target p.side wing) (Some (man p.side Rook))
board_after p m Null = p.board
board_after p m _ = moved p m

-- A null move keeps all rights.
abbrev pub rights_left : Setup → Move → Effect → Rights
rights_left p m Null = p.rights
rights_left p m _ = rights_after p.rights m

-- The square that a pawn's double step has crossed (FIDE Laws, Article 3.7.3.1).
abbrev pub en_passant_after : Setup → Move → Effect → Option ℕ
en_passant_after p m Double = Some (square (file_of m.from) (en_passant_rank (other p.side)))
en_passant_after p m _ = None

-- What the position becomes: the other side is to move.
abbrev pub after : Setup → Move → Effect → Setup
after p m e =
    record {
      board = board_after p m e;
      side = other p.side;
      rights = rights_left p m e;
      en_passant = en_passant_after p m e;
    }

-- What the position becomes by a move: a legal move leads there, and nowhere else.
unfoldable pub stepped : Setup → Move → Setup
stepped p m = after p m (effect_of p m)

-- Whether a move captures: a man stands on its target, or it is a capture en passant; castling and the null move, which go
-- to no man, capture nothing.
abbrev pub captures_by : Effect → Setup → Move → Bool
captures_by Passing p m = true
captures_by (Castle wing) p m = false
captures_by Null p m = false
captures_by _ p m = is_some (man_at p.board m.to)

unfoldable pub is_capture : Setup → Move → Bool
is_capture p m = captures_by (effect_of p m) p m

-- The move m leads from p to q: it is allowed by the rules of its kind, q is what the position becomes, and the mover's
-- king is not attacked in q (FIDE Laws, Article 3.9.2).
pub record Step (p : Setup) (m : Move) (q : Setup) : Type 0 where
  pub allowed : Case p m (effect_of p m)
  pub becomes : q ≡ after p m (effect_of p m)
  pub safe : IsInCheck q.board p.side → ⊥

-- The move m is legal in p (FIDE Laws, Article 3.10.1).
abbrev pub Legal : Setup → Move → Type 0
Legal p m = (q : Setup) × Step p m q
