use Rattle.std.proofs.Common.{◌≡◌, drop}
use Rattle.game_tree.specs.Tree.{line_of, branches_of}
use Rattle.game_tree.specs.Promotions.{line_any, branches_any}
use Rattle.game_tree.specs.Sought.{is_sought}
use Rattle.game_tree.proofs.promotions.+promotions.Given as goal

abbrev pub invariant-branches_have-loop-branch : goal.invariant-branches_have-loop-branch
invariant-branches_have-loop-branch l =
    branches_any (is_sought l.sought) (branches_of (drop l.branch-index l.branches)) ≡ branches_any (is_sought l.sought) (branches_of l.branches)

abbrev pub invariant-line_has-loop-node : goal.invariant-line_has-loop-node
invariant-line_has-loop-node l =
    line_any (is_sought l.sought) (line_of (drop l.node-index l.line)) ≡ line_any (is_sought l.sought) (line_of l.line)
