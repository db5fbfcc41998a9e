use Rattle.std.proofs.Common.{drop}
use Rattle.game_tree.specs.Tree.{line_of, branches_of}
use Rattle.game_tree.specs.Counting.{line_variations, line_comments, line_nags, branches_variations, branches_comments, branches_nags}
use Rattle.game_tree.proofs.CountLemmas.{Left}
use Rattle.game_tree.proofs.counts.+counting.Given as goal

-- What is left gives the same as all.
abbrev pub invariant-count_line-loop-node : goal.invariant-count_line-loop-node
invariant-count_line-loop-node l =
    Left l.initial.counts l.counts (line_variations (line_of l.line)) (line_comments (line_of l.line)) (line_nags (line_of l.line))
    (line_variations (line_of (drop l.node-index l.line))) (line_comments (line_of (drop l.node-index l.line))) (line_nags (line_of (drop l.node-index l.line)))

abbrev pub invariant-count_branches-loop-branch : goal.invariant-count_branches-loop-branch
invariant-count_branches-loop-branch l =
    Left l.initial.counts l.counts (branches_variations (branches_of l.branches)) (branches_comments (branches_of l.branches)) (branches_nags (branches_of l.branches))
    (branches_variations (branches_of (drop l.branch-index l.branches))) (branches_comments (branches_of (drop l.branch-index l.branches))) (branches_nags (branches_of (drop l.branch-index l.branches)))
