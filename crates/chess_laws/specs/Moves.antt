-- The legal moves of a position (FIDE Laws, Article 3.10.1), in an order that is this project's own, and the moves that
-- are legal on a board.
use Rattle.std.specs.Prelude.{◌≡◌, ℕ, ◌+◌, ◌*◌, ◌<◌, List, Option, Some, None, length, All, AllPairs, Contains}
use Rattle.cell_core.specs.declared.man.Kind.{Kind}
use Rattle.cell_core.specs.declared.step.Move.{Move}
use Rattle.cell_core.specs.Board.{Men}
use Rattle.cell_core.specs.Man.{kind_number}
use Rattle.cell_core.specs.declared.man.Colour.{Colour}
use Rattle.chess_laws.specs.declared.setup.Setup.{Setup}
use Rattle.chess_laws.specs.Position.{Sound}
use Rattle.chess_laws.specs.Step.{Legal}

-- A legal move (FIDE Laws, Article 3.10.1) other than the null move, which stays on its square.
pub record IsMove (p : Setup) (m : Move) : Type 0 where
  pub legal : Legal p m
  pub leaves : m.to ≡ m.from → ⊥

-- The place of a promotion in the order none, queen, rook, bishop, knight (this project's own).
abbrev pub promotion_number : Option Kind → ℕ
promotion_number None = 0
promotion_number (Some k) = kind_number k + 1

-- The place of a move in the order of moves: by the first square, then the target, then the promotion (this project's own).
abbrev pub place_of : Move → ℕ
place_of m = 512 * m.from + (8 * m.to + promotion_number m.promo)

-- Each move stands before those behind it in the order of moves, so that none stands twice.
abbrev pub Ascends : List Move → Type 0
Ascends ms = AllPairs (λ a b. place_of a < place_of b) ms

-- The list has every legal move but the null move, each once and in order, and nothing else.
pub record ListsMoves (p : Setup) (ms : List Move) : Type 0 where
  pub only : All (IsMove p) ms
  pub all : (m : Move) → IsMove p m → Contains ms m
  pub in_order : Ascends ms

-- There are more than n legal moves besides the null move: so many different ones, in order.
pub record HasMoreMoves (p : Setup) (n : ℕ) : Type 0 where
  pub moves : List Move
  pub only : All (IsMove p) moves
  pub in_order : Ascends moves
  pub many : n < length moves

-- The move is legal from some position of this board and side to move (FIDE Laws, Article 3.10.1).
pub record IsFrom (men : Men) (side : Colour) (m : Move) : Type 0 where
  pub position : Setup
  pub sound : Sound position
  pub board : position.board ≡ men
  pub to_move : position.side ≡ side
  pub legal : Legal position m
