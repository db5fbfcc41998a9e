-- What is kept tells of check.
use Rattle.chess_laws.proofs.Words.{◌≡◌, ◌↔◌, IsTrue, subst, IsInCheck, in_check_now}
use Rattle.chess_laws.proofs.Deciding.{in_check-Decides}
use Rattle.chess_laws.proofs.position.Position.in_check.Goals as goal

pub returns-clause-check : goal.returns-clause-check
returns-clause-check c =
    subst (λ q. IsTrue c.self.inside.checked ↔ IsInCheck q.board q.side) c.self.view_is
    (rw c.self.invariant.check (in_check-Decides c.self.inside.inner.board c.self.inside.inner.side))

pub returns-clause-decided : goal.returns-clause-decided
returns-clause-decided c = subst (λ q. c.self.inside.checked ≡ in_check_now q.board q.side) c.self.view_is c.self.invariant.check
