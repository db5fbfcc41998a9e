use Rattle.chess_text.specs.SanStarts.{StartsBy}
use Rattle.chess_text.proofs.san_playing.starts_by_steps.Given as goal

-- what was found covers the squares of the steps so far
abbrev pub invariant-loop-step : goal.invariant-loop-step
invariant-loop-step l = StartsBy l.p l.g l.steps l.step-index l.starts
