use Rattle.std.proofs.Common.{drop}
use Rattle.game_tree.specs.Tree.{line_of}
use Rattle.sig_index.proofs.LeavingLemmas.{ReplaysOn}
use Rattle.sig_index.proofs.signature.left_along.Given as goal

-- What is left of the line leaves what the game leaves.
abbrev pub invariant-loop-node : goal.invariant-loop-node
invariant-loop-node l = ReplaysOn l.fn.g (line_of (drop l.node-index l.line)) l.still l.left.items
