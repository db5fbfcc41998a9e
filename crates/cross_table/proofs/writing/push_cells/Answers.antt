use Rattle.cross_table.proofs.Steps.{cells_more}
use Rattle.cross_table.proofs.writing.push_cells.Goals as goal

pub loop-column-preserved : goal.loop-column-preserved
loop-column-preserved c =
    cells_more c.args.row.now c.args.rows.now c.loop-column.column-index c.column-item.result c.loop-column.into.items c.push.new.self.items
    c.push_cell.new.into.items _ c.loop-column-test.true c.column-item.is c.loop-column.invariant c.in_ok-push.ensures.items c.in_ok-push_cell.ensures
