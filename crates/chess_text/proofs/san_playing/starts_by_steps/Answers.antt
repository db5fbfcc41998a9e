use Rattle.std.proofs.Common.{ℕ, subst}
use Rattle.chess_text.specs.SanStarts.{StartsWith}
use Rattle.chess_text.proofs.StartLaws.{steps_next, steps_start}
use Rattle.chess_text.proofs.san_playing.starts_by_steps.Goals as goal

pub loop-step-init : goal.loop-step-init
loop-step-init c = steps_start c.args.p.now c.args.g.now c.args.steps.now

pub loop-step-preserved : goal.loop-step-preserved
loop-step-preserved c =
    steps_next c.args.p.now c.args.g.now c.args.steps.now c.loop-step.step-index c.loop-step.starts c.with_start-starts.result c.loop-step.invariant
    (subst (λ (s : ℕ). StartsWith c.args.p.now c.args.g.now s c.loop-step.starts c.with_start-starts.result) (cc) c.with_start-starts.ensures.with)
