use Rattle.std.proofs.Common.{◌≡◌, ap, arith, length, set, ◌∙◌}
use Rattle.std.proofs.lemmas.List.{length-set}
use Rattle.game_filter.proofs.Counts.{count_in_more}
use Rattle.game_filter.proofs.Passes.{restricted_step_at, restricted_below_all}
use Rattle.game_filter.proofs.plies.restrict.Goals as goal

pub loop-i-preserved : goal.loop-i-preserved
loop-i-preserved c = record {
  changed =
      c.set.ensures.changed ∙ ap (set c.loop-i.entries c.loop-i.i) c.within-ply.ensures.within
      ∙ restricted_step_at _ _ _ _ _ _ (omega arith) c.loop-i.invariant.changed c.get.ensures.entry;
  counted = rw c.set.ensures.changed (grind (arith, count_in_more c.loop-i.entries c.loop-i.i c.within-ply.result (omega arith)));
  len = rw (c.set.ensures.changed, length-set c.loop-i.entries c.loop-i.i c.within-ply.result) c.loop-i.invariant.len;
}

pub returns-clause-restricted : goal.returns-clause-restricted
returns-clause-restricted c =
    let n : c.loop-i.i ≡ length c.args.entries.now = omega arith in
    c.loop-i.invariant.changed ∙ rw n (restricted_below_all 0 c.args.first c.args.last c.args.entries.now)
