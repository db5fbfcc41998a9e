use Rattle.pos_index.proofs.MovedLemmas.{MovedHits}
use Rattle.pos_index.proofs.hits.renumber.Given as goal

-- The hits below k that stay are moved to the front.
abbrev pub invariant-loop-k : goal.invariant-loop-k
invariant-loop-k l = MovedHits l.to l.fn.hits l.hits l.k l.kept
