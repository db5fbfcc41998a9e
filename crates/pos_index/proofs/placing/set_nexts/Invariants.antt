use Rattle.std.proofs.Common.{◌≡◌}
use Rattle.pos_index.proofs.GameLemmas.{nexts_so}
use Rattle.pos_index.proofs.placing.set_nexts.Given as goal

-- The places before have their moves.
abbrev pub invariant-loop-k : goal.invariant-loop-k
invariant-loop-k l = l.places ≡ nexts_so l.game l.fn.places l.i l.k
