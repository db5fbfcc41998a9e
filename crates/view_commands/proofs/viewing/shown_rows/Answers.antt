use Rattle.tree_rows.specs.MoveText.{IsKey}
use Rattle.tree_rows.specs.declared.row.Row.{Row}
use Rattle.view_commands.proofs.ReadLaws.{row_passed, row_read}
use Rattle.view_commands.proofs.viewing.shown_rows.Goals as goal
use Rattle.view_commands.proofs.viewing.shown_rows.Goals.{then-is_key+in_ok-push, else-is_key}

pub loop-i-preserved : goal.loop-i-preserved
loop-i-preserved g c =
    let P : Row → Type 0 = λ row. IsKey c.args.board.now c.args.side row.key in
    let shown = c.loop-i.shown.items in
    elim c.if-is_key.branch [
      | then-is_key+in_ok-push w ↦
          let read = row_read P _ c.loop-i.i c.row-row.result shown w.push.new.self.items c.row-row.ensures (c.is_key.ensures.key.0 w.if-is_key.true) w.in_ok-push.ensures.items
          c.loop-i.invariant.keys c.loop-i.invariant.rows in
          rw (w.shown-is) (record { keys = read.keys; rows = read.all })
      | else-is_key w ↦
          let read = row_passed P _ c.loop-i.i c.row-row.result shown c.row-row.ensures (λ key. absurd (cc (c.is_key.ensures.key.1 key, w.if-is_key.false)))
          c.loop-i.invariant.keys c.loop-i.invariant.rows in
          rw (w.shown-is) (record { keys = read.keys; rows = read.all })
    ]
