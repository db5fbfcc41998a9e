use Rattle.chess_laws.proofs.Words.{◌↔◌, IsTrue, sym, subst, Setup, IsInCheck}
use Rattle.chess_laws.proofs.position.Position.advance_of.Goals as goal

pub is_legal_as-legal-requires-clause-check : goal.is_legal_as-legal-requires-clause-check
is_legal_as-legal-requires-clause-check c =
    subst (λ (q : Setup). IsTrue c.in_check.result ↔ IsInCheck q.board q.side) (sym c.setup.ensures.setup) c.in_check.ensures.check
