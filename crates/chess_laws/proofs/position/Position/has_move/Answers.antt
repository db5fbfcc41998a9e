-- There is some move exactly where a list with room for none is too short.
use Rattle.chess_laws.proofs.Words.{not, IsTrue, subst, Move, IsMove}
use Rattle.chess_laws.proofs.Listing.{some-move}
use Rattle.chess_laws.proofs.position.Position.has_move.Goals as goal

pub returns : goal.returns
returns c = record {
  some =
      subst (λ p. (IsTrue (not c.list_moves.result) → (m : Move) × IsMove p m) × (((m : Move) × IsMove p m) → IsTrue (not c.list_moves.result)))
      c.setup.ensures.setup
      (some-move c.setup.result.now c.list_moves.result c.list_moves.ensures.room c.list_moves.ensures.many);
}
