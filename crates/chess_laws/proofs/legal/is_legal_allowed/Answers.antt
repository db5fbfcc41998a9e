-- After an allowed move the mover's king is safe where it stays so, or where it is not attacked on the new board.
use Rattle.chess_laws.proofs.Words.{sym, ◌∙◌, and_parts, OnTrue_at, is_calm, effect_of, Case}
use Rattle.chess_laws.proofs.MovedKings.{legal-of, legal-safe}
use Rattle.chess_laws.proofs.Opening.{legal-calm}
use Rattle.chess_laws.proofs.legal.is_legal_allowed.Goals as goal

pub returns-then-stays_safe : goal.returns-then-stays_safe
returns-then-stays_safe c =
    let p = c.args.p.now in
    let case : Case p c.args.m.now (effect_of p c.args.m.now) = rw c.requires.effect at c.requires.allowed in
    let both = and_parts c.args.shut (is_calm c.args.effect) (sym c.stays_safe.ensures ∙ c.if-stays_safe.true) in
    let legal =
    legal-calm p c.args.m.now c.args.king c.requires.sound c.requires.king case (rw c.requires.effect at both.1) (OnTrue_at both.0 c.requires.shut) in
    ((λ h. legal), (λ h. c.if-stays_safe.true))

pub returns-else-stays_safe : goal.returns-else-stays_safe
returns-else-stays_safe c =
    let p = c.args.p.now in
    let case : Case p c.args.m.now (effect_of p c.args.m.now) = rw c.requires.effect at c.requires.allowed in (
      λ h. legal-of p c.args.m.now case (rw c.requires.effect at (c.is_safe_after.ensures.0 h)),
      λ legal. c.is_safe_after.ensures.1 (rw c.requires.effect (legal-safe p c.args.m.now legal)),
    )
