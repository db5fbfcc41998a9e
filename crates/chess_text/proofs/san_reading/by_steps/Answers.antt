use Rattle.std.proofs.Common.{ℕ, subst}
use Rattle.chess_text.specs.SanSearch.{FoundWith}
use Rattle.chess_text.proofs.CameLaws.{by_next}
use Rattle.chess_text.proofs.san_reading.by_steps.Goals as goal

pub loop-step-preserved : goal.loop-step-preserved
loop-step-preserved c =
    by_next c.args.p.now c.args.g.now c.args.steps.now c.loop-step.step-index c.loop-step.found c.in_ok-found.found c.loop-step.invariant
    (subst (λ (s : ℕ). FoundWith c.args.p.now c.args.g.now s c.loop-step.found c.in_ok-found.found) (cc) c.in_ok-found.ensures.tried)
