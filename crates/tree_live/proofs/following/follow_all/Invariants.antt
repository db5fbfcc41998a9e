use Rattle.tree_live.specs.Following.{Followed}
use Rattle.tree_live.proofs.following.follow_all.Given as goal

-- The change was brought to the watches so far.
abbrev pub invariant-loop-k : goal.invariant-loop-k
invariant-loop-k l = Followed l.change l.k l.fn.watches l.watches
