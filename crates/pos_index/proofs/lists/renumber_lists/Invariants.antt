use Rattle.std.proofs.Common.{◌≡◌, ◌++◌, map, take, drop}
use Rattle.pos_index.specs.Keeping.{moved}
use Rattle.pos_index.proofs.lists.renumber_lists.Given as goal

-- The lists below k have the new numbers.
abbrev pub invariant-loop-k : goal.invariant-loop-k
invariant-loop-k l = l.lists ≡ map (moved l.to) (take l.k l.fn.lists) ++ drop l.k l.fn.lists
