use Rattle.std.proofs.Common.{sym, arith}
use Rattle.tree_rows.proofs.Totals.{total-none, total_step}
use Rattle.tree_rows.proofs.numbers.Numbers.total.Goals as goal

pub add-requires : goal.add-requires
add-requires c = record { room = record { rows = c.loop-row.row-index; within = c.loop-row.invariant.within; few = omega arith } }

pub loop-row-preserved : goal.loop-row-preserved
loop-row-preserved c = record {
  sums = total_step c.args.rows.now c.loop-row.row-index c.row-item.result c.loop-row.total c.add.new.self c.loop-row-test.true c.row-item.is
      c.loop-row.invariant.sums c.add.ensures.plus;
  within = c.add.ensures.within c.loop-row.row-index c.loop-row.invariant.within;
}

pub loop-row-init : goal.loop-row-init
loop-row-init c = record {
  sums = sym total-none;
  within = record {
    games = omega arith;
    white = omega arith;
    draws = omega arith;
    black = omega arith;
    unfinished = omega arith;
    mover_sum = omega arith;
    mover_rated = omega arith;
    other_sum = omega arith;
    other_rated = omega arith;
    year_sum = omega arith;
    dated = omega arith;
  };
}
