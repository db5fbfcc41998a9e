-- Laws of the list of legal moves.
use Rattle.std.proofs.Common.{◌≡◌, ◌<◌, ◌∙◌, ap, sym, ℕ, Bool, true, false, not, nat_lt, List, length, inl, inr, All}
use Rattle.std.specs.Bool.{OnFalse, OnTrue}
use Rattle.std.proofs.lemmas.Bool.{cases_lt, le-ltb, lt-ltb}
use Rattle.cell_core.specs.declared.step.Move.{Move}
use Rattle.chess_laws.specs.declared.setup.Setup.{Setup}
use Rattle.chess_laws.specs.Moves.{HasMoreMoves, IsMove, ListsMoves}
use Rattle.chess_laws.specs.Position.{Sound}
use Rattle.chess_laws.specs.Step.{Legal}
use Rattle.demo_games.specs.Moves.{legal_moves}
use Rattle.demo_games.proofs.LegalList.{lists-moves, more-moves}

-- They are those of the definition.
pub moves_listed : (p : Setup) (moves : List Move) → Sound p → ListsMoves p moves → moves ≡ legal_moves p
moves_listed p moves sound lists = lists-moves p moves sound lists

-- Where there are no more than fit, the definition has no more.
pub moves_fit : (p : Setup) (moves : List Move) → ListsMoves p moves → (HasMoreMoves p 256 → ⊥) → nat_lt 256 (length moves) ≡ false
moves_fit p moves lists room = elim (cases_lt 256 (length moves)) [
  | inl many ↦ absurd (room (record { moves = moves; only = lists.only; in_order = lists.in_order; many = many }))
  | inr few ↦ le-ltb 256 (length moves) few
]

pub moves_many : (p : Setup) → Sound p → HasMoreMoves p 256 → nat_lt 256 (length (legal_moves p)) ≡ true
moves_many p sound more = lt-ltb 256 (length (legal_moves p)) (more-moves p 256 sound more)

-- Each of them is legal.
pub moves_legal : (p : Setup) (moves : List Move) → All (IsMove p) moves → All (Legal p) moves
moves_legal p moves only = λ i d below. (only i d below).legal

-- The same by the answer of the call that lists them.
pub listed_by : (fits : Bool) (p : Setup) (moves : List Move) → Sound p → OnTrue fits (ListsMoves p moves) → OnTrue fits (moves ≡ legal_moves p)
listed_by true p moves sound lists = moves_listed p moves sound lists
listed_by false p moves sound lists = tt

pub fits_by : (fits : Bool) (p : Setup) (moves : List Move) → Sound p → OnTrue fits (ListsMoves p moves) → OnFalse fits (HasMoreMoves p 256) → OnTrue fits (HasMoreMoves p 256 → ⊥)
    → nat_lt 256 (length (legal_moves p)) ≡ not fits
fits_by true p moves sound lists many room = ap (λ (l : List Move). nat_lt 256 (length l)) (sym (moves_listed p moves sound lists)) ∙ moves_fit p moves lists room
fits_by false p moves sound lists many room = moves_many p sound many
