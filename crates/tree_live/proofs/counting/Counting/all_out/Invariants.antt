use Rattle.std.proofs.Common.{◌≡◌, take}
use Rattle.tree_live.specs.Watching.{all_out}
use Rattle.tree_live.proofs.counting.Counting.all_out.Given as goal

-- The games so far are out.
abbrev pub invariant-loop-hit : goal.invariant-loop-hit
invariant-loop-hit l = l.games.items ≡ all_out (take l.hit-index l.hits)
