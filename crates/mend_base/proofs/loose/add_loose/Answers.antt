use Rattle.std.proofs.Common.{arith, refl}
use Rattle.mend_base.proofs.LooseLaws.{free-next, leads-next}
use Rattle.mend_base.proofs.loose.add_loose.Goals as goal

pub loop-at-preserved : goal.loop-at-preserved
loop-at-preserved c =
    let marks = c.args.marks.now in
    let at = c.loop-at.at in
    let end = c.free_end-end.result in
    record {
      leads = leads-next c.args.place at c.max.result c.loose_len-len.result end marks c.args.bytes.now c.loop-at.index.items c.add_entry.new.index.items _ _ c.loop-at.invariant.leads c.free_end-end.ensures.end refl
          c.loose_len-len.ensures.len c.max.ensures c.in_ok-add_entry.ensures.added;
      free = λ below. free-next at c.max.result end marks c.free_end-end.ensures.end below;
      within = c.free_end-end.ensures.within;
    }
