use Rattle.cross_table.proofs.Steps.{signs_at}
use Rattle.cross_table.proofs.writing.push_signs.Goals as goal

pub loop-m-preserved : goal.loop-m-preserved
loop-m-preserved c =
    signs_at c.args.id c.args.met.now c.loop-m.m-index _ c.loop-m.into.items c.push_sign.new.into.items _
    c.loop-m-test.true c.loop-m.invariant c.in_ok-push_sign.ensures
