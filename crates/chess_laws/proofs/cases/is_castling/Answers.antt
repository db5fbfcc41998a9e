-- Castling is allowed where it may be done and the king's path is safe.
use Rattle.chess_laws.proofs.cases.is_castling.Goals as goal

pub returns-then-may_castle : goal.returns-then-may_castle
returns-then-may_castle c =
    let may = c.may_castle.ensures.0 c.if-may_castle.true in (
      λ h. record { stands = may.stands; right = may.right; empty = may.empty; safe = c.is_path_safe.ensures.0 h; promo = may.promo },
      λ case. c.is_path_safe.ensures.1 case.safe,
    )
