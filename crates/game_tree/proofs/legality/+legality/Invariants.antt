use Rattle.std.proofs.Common.{drop}
use Rattle.std.specs.Prelude.{◌↔◌}
use Rattle.game_tree.specs.Tree.{line_of, branches_of}
use Rattle.game_tree.specs.Legal.{IsLegalLine, AreLegalBranches}
use Rattle.game_tree.proofs.legality.+legality.Given as goal

abbrev pub invariant-are_legal_branches-loop-branch : goal.invariant-are_legal_branches-loop-branch
invariant-are_legal_branches-loop-branch l =
    AreLegalBranches l.position (branches_of (drop l.branch-index l.branches)) ↔ AreLegalBranches l.position (branches_of l.branches)

abbrev pub invariant-is_legal_line-loop-node : goal.invariant-is_legal_line-loop-node
invariant-is_legal_line-loop-node l =
    IsLegalLine l.position (line_of (drop l.node-index l.line)) ↔ IsLegalLine l.start (line_of l.line)
