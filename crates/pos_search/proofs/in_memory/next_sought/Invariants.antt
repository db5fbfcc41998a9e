use Rattle.pos_search.proofs.InMemoryLemmas.{IsWalked}
use Rattle.pos_search.proofs.in_memory.next_sought.Given as goal

-- The position is the one after the moves before this place, and what is sought stands at none of them.
abbrev pub invariant-loop-node : goal.invariant-loop-node
invariant-loop-node l = IsWalked l.q l.game l.node-index l.position l.coming
