use Rattle.std.proofs.Common.{arith, get_or}
use Rattle.std.proofs.lemmas.List.{get_or_default}
use Rattle.std.proofs.lemmas.List.Edits.{map_over_more}
use Rattle.filter_seat.proofs.saved.put_at_start.Goals as goal
use Rattle.filter_seat.specs.SavedFilters.{kept_to_start}

pub loop-kept-preserved : goal.loop-kept-preserved
loop-kept-preserved c = record {
  filter = c.loop-kept.invariant.filter;
  saved =
      rw c.put_one_at_start.ensures.put
      (map_over_more (kept_to_start c.args.i) c.args.saved.now c.loop-kept.saved c.loop-kept.kept-index (get_or c.loop-kept.saved c.loop-kept.kept-index c.kept-item.result) (omega (arith, c.loop-kept-test.true, c.loop-kept.auto.kept-index-end)) c.loop-kept.invariant.saved (get_or_default c.loop-kept.saved c.loop-kept.kept-index c.kept-item.result (get_or c.loop-kept.saved c.loop-kept.kept-index c.kept-item.result) (omega (arith, c.loop-kept-test.true, c.loop-kept.auto.kept-index-end, c.loop-kept.auto.saved))));
}
