use Rattle.tree_live.proofs.RowChangeLaws.{alone-keys-more, rows-more}
use Rattle.tree_live.proofs.row_changes.shown_rows.Goals as goal

pub loop-i-preserved : goal.loop-i-preserved
loop-i-preserved g c = record {
  rows = rows-more _ c.loop-i.shown.items c.push.new.self.items c.loop-i.i c.row-row.result c.row-row.ensures c.loop-i.invariant.rows c.in_ok-push.ensures.items;
  keys = alone-keys-more c.args.table.now _ c.loop-i.i c.row-row.result _ c.loop-i.keys.items c.note_alone.new.keys.items c.row-row.ensures
      c.loop-i.invariant.keys c.in_ok-note_alone.ensures.noted;
}
