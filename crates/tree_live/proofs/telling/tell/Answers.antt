use Rattle.std.proofs.Common.{arith}
use Rattle.tree_live.proofs.TellingLaws.{told-again, told-nothing-more}
use Rattle.tree_live.proofs.ViewLaws.{tells-none, tells-more}
use Rattle.tree_live.proofs.telling.tell.Goals as goal

pub loop-key-init : goal.loop-key-init
loop-key-init g c = record { tells = tells-none c.args.table.now _; counts = told-nothing-more _ _ }

pub loop-key-preserved : goal.loop-key-preserved
loop-key-preserved g c = record {
  tells = tells-more c.args.keys.now c.loop-key.key-index c.key-item.result c.args.table.now _ _ _ c.loop-key-test.true c.key-item.is
      c.loop-key.invariant.tells c.in_ok-tell_row.ensures.told;
  counts = told-again c.loop-key.key-index 1 _ _ _ _ (omega arith) c.loop-key.invariant.counts c.tell_row.ensures.counts;
}
