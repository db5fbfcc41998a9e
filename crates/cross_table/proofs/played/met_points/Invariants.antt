use Rattle.std.proofs.Common.{◌≡◌, ◌≤◌, ◌*◌, take}
use Rattle.cross_table.specs.Keeping.{met_points}
use Rattle.cross_table.proofs.played.met_points.Given as goal

-- The half points so far, at most two a game.
abbrev pub invariant-loop-m : goal.invariant-loop-m
invariant-loop-m l = record {
  sum : l.points ≡ met_points (take l.m-index l.met);
  few : l.points ≤ 2 * l.m-index;
}
