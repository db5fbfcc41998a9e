use Rattle.std.proofs.Common.{◌≤◌, ◌-◌, length, take}
use Rattle.perft.specs.Count.{AddsUp}
use Rattle.perft.proofs.Counting.{Behind}
use Rattle.perft.proofs.+nodes.Given as goal

-- The depth falls.
abbrev pub decreases-nodes : goal.decreases-nodes
decreases-nodes l = l.depth

-- The lines that begin with the moves so far are counted.
abbrev pub invariant-loop-m : goal.invariant-loop-m
invariant-loop-m l = record {
  within : l.m-index ≤ length l.m-items;
  sum : AddsUp (Behind (l.depth - 1) l.position) (take l.m-index l.m-items) l.all;
}
