-- What the code of legal moves collects on its way. No public contract cites these words.
use Rattle.std.specs.Prelude.{◌≡◌, ℕ, ◌<◌, ◌≤◌, ◌⊎◌, List, length, All, Any, Contains, ◌++◌, Some, None}
use Rattle.std.specs.Int.{bit_at}
use Rattle.cell_core.specs.declared.man.Kind.{Kind}
use Rattle.cell_core.specs.declared.man.Kind.TheVariants.{King, Queen, Rook, Bishop, Knight, Pawn}
use Rattle.cell_core.specs.declared.step.Move.{Move}
use Rattle.chess_laws.specs.declared.setup.Setup.{Setup}
use Rattle.chess_laws.specs.declared.setup.Wing.{Wing}
use Rattle.chess_laws.specs.declared.targets.SquareSet.{SquareSet}
use Rattle.chess_laws.specs.Geometry.{rank_of, forward, pawn_captures, rook_steps, bishop_steps, knight_steps, king_steps, Leaps, Runs, Walk}
use Rattle.cell_core.specs.Board.{man_at}
use Rattle.cell_core.specs.Man.{man}
use Rattle.chess_laws.specs.LegalTests.{IsEnemyOn}
use Rattle.chess_laws.specs.declared.effect.Effect.{Effect}
use Rattle.chess_laws.specs.Step.{effect_of, last_rank, pawn_rank, Case, CastleCase, HasNoOwn}
use Rattle.chess_laws.specs.Castling.{king_home, king_target}
use Rattle.chess_laws.specs.Moves.{IsMove, place_of, Ascends}

-- The square is in the set.
abbrev pub Has : SquareSet → ℕ → Type 0
Has set s = bit_at set.bits s ≡ 1

-- The move from a to b that names no promotion.
abbrev pub goes : ℕ → ℕ → Move
goes a b = record { from = a; to = b; promo = None }

-- A king castles from a to b.
abbrev pub CastlesTo : Setup → ℕ → ℕ → Type 0
CastlesTo p a b = (a ≡ king_home p.side) × ((wing : Wing) × ((b ≡ king_target p.side wing) × CastleCase p (goes a (king_target p.side wing)) wing))

-- A pawn comes from a to b: one square forward, or two from its own rank, to an empty one, or diagonally to an enemy or in
-- passing.
abbrev pub DoublesTo : Setup → ℕ → ℕ → Type 0
DoublesTo p a b = (rank_of a ≡ pawn_rank p.side) × (Walk p.board (forward p.side) 1 a b × (man_at p.board b ≡ None))

unfoldable pub MayTake : Setup → ℕ → Type 0
MayTake p b = IsEnemyOn p.board p.side b ⊎ (p.en_passant ≡ Some b)

abbrev pub PawnComes : Setup → ℕ → ℕ → Type 0
PawnComes p a b =
    (Leaps a b (forward p.side) × (man_at p.board b ≡ None))
    ⊎ (DoublesTo p a b ⊎ (Any (Leaps a b) (pawn_captures p.side) × MayTake p b))

-- A man of the side to move and of this kind comes from a to b, whatever becomes of its king.
abbrev pub Comes : Setup → Kind → ℕ → ℕ → Type 0
Comes p King a b = (Any (Leaps a b) king_steps × HasNoOwn p.board p.side b) ⊎ CastlesTo p a b
Comes p Queen a b = Any (Runs p.board a b) (rook_steps ++ bishop_steps) × HasNoOwn p.board p.side b
Comes p Rook a b = Any (Runs p.board a b) rook_steps × HasNoOwn p.board p.side b
Comes p Bishop a b = Any (Runs p.board a b) bishop_steps × HasNoOwn p.board p.side b
Comes p Knight a b = Any (Leaps a b) knight_steps × HasNoOwn p.board p.side b
Comes p Pawn a b = PawnComes p a b

-- The list has the moves whose place is below n, each once and in order, and nothing else, and at most so many fit.
pub record ListsBelow (p : Setup) (room n : ℕ) (ms : List Move) : Type 0 where
  pub fits : length ms ≤ room
  pub only : All (IsMove p) ms
  pub below : All (λ m. place_of m < n) ms
  pub all : (m : Move) → IsMove p m → place_of m < n → Contains ms m
  pub in_order : Ascends ms

-- The list has the moves that stand before this one in the order of moves.
abbrev pub ListsBefore : Setup → ℕ → Move → List Move → Type 0
ListsBefore p room m ms = ListsBelow p room (place_of m) ms

-- A pawn of the side to move stands on a, and b is on the last rank of its way.
pub record MayPromote (p : Setup) (a b : ℕ) : Type 0 where
  pub stands : man_at p.board a ≡ Some (man p.side Pawn)
  pub last : rank_of b ≡ last_rank p.side

-- A pawn that comes to b is not promoted, and captures nothing in passing.
pub record PawnGoes (p : Setup) (b : ℕ) : Type 0 where
  pub apart : p.en_passant ≡ Some b → ⊥
  pub inside : rank_of b ≡ last_rank p.side → ⊥

-- A man of this kind that comes to b makes one move, of which its rule is known.
abbrev pub IsKnown : Setup → Kind → ℕ → Type 0
IsKnown p King b = Unit {0}
IsKnown p Queen b = Unit {0}
IsKnown p Rook b = Unit {0}
IsKnown p Bishop b = Unit {0}
IsKnown p Knight b = Unit {0}
IsKnown p Pawn b = PawnGoes p b

-- This move is of this kind and allowed by its rules, it leaves its square, and no other leads from a to b.
pub record Known (p : Setup) (a b : ℕ) (e : Effect) : Type 0 where
  pub effect : e ≡ effect_of p (goes a b)
  pub allowed : Case p (goes a b) e
  pub leaves : b ≡ a → ⊥
  pub plain : MayPromote p a b → ⊥
