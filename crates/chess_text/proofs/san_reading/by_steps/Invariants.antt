use Rattle.chess_text.specs.SanSearch.{FoundBy}
use Rattle.chess_text.proofs.san_reading.by_steps.Given as goal

-- what was found is known of the squares of the steps so far
abbrev pub invariant-loop-step : goal.invariant-loop-step
invariant-loop-step l = FoundBy l.p l.g l.steps l.step-index l.found
