use Rattle.std.proofs.Common.{arith}
use Rattle.cross_table.proofs.Steps.{lines_more}
use Rattle.cross_table.proofs.writing.push_rows.Goals as goal

pub loop-row-preserved : goal.loop-row-preserved
loop-row-preserved c = record {
  count = omega (arith, c.loop-row.invariant.count);
  left = lines_more c.args.rows.now c.args.rows.now c.loop-row.row-index c.loop-row.above c.row-item.result c.loop-row.into.items c.push_row.new.into.items _
      c.loop-row-test.true c.row-item.is c.loop-row.invariant.left c.in_ok-push_row.ensures;
}
