use Rattle.std.proofs.Common.{drop}
use Rattle.game_tree.specs.Tree.{line_of}
use Rattle.sig_index.proofs.EndLemmas.{Ends}
use Rattle.sig_index.proofs.signature.end_of.Given as goal

abbrev pub invariant-loop-node : goal.invariant-loop-node
invariant-loop-node l = Ends l.fn.g (line_of (drop l.node-index l.line)) l.position
