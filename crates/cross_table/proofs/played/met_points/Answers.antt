use Rattle.std.proofs.Common.{arith, refl}
use Rattle.cross_table.proofs.Steps.{points_at}
use Rattle.cross_table.proofs.played.met_points.Goals as goal

pub loop-m-preserved : goal.loop-m-preserved
loop-m-preserved c = record {
  sum = points_at c.args.met.now c.loop-m.m-index _ c.loop-m.points _ c.half_points-points.result c.loop-m-test.true
      c.loop-m.invariant.sum c.half_points-points.ensures.points refl;
  few = omega (arith, c.half_points-points.ensures.few, c.loop-m.invariant.few);
}
