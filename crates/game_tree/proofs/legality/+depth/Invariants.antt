use Rattle.std.proofs.Common.{◌≤◌, drop}
use Rattle.std.specs.Prelude.{◌↔◌}
use Rattle.game_tree.specs.Tree.{line_of, branches_of, depth_of, depth_within}
use Rattle.game_tree.proofs.legality.+depth.Given as goal

abbrev pub invariant-are_within-loop-branch : goal.invariant-are_within-loop-branch
invariant-are_within-loop-branch l =
    (depth_within (branches_of (drop l.branch-index l.branches)) ≤ l.room) ↔ (depth_within (branches_of l.branches) ≤ l.room)

abbrev pub invariant-is_within-loop-node : goal.invariant-is_within-loop-node
invariant-is_within-loop-node l =
    (depth_of (line_of (drop l.node-index l.line)) ≤ l.room) ↔ (depth_of (line_of l.line) ≤ l.room)
