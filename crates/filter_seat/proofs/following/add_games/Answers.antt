use Rattle.std.proofs.Common.{arith, get_or}
use Rattle.std.proofs.lemmas.List.{get_or_default}
use Rattle.std.proofs.lemmas.List.Edits.{map_over_more}
use Rattle.filter_seat.proofs.FollowLaws.{kept_longer}
use Rattle.filter_seat.proofs.following.add_games.Goals as goal

pub loop-kept-preserved : goal.loop-kept-preserved
loop-kept-preserved c = record {
  filter = c.loop-kept.invariant.filter;
  few = c.loop-kept.invariant.few;
  saved =
      rw c.in_ok-add_to_kept.ensures.added
      (map_over_more (kept_longer c.args.games) c.args.saved.now c.loop-kept.saved c.loop-kept.kept-index (get_or c.loop-kept.saved c.loop-kept.kept-index c.kept-item.result) (omega (arith, c.loop-kept-test.true, c.loop-kept.auto.kept-index-end)) c.loop-kept.invariant.saved (get_or_default c.loop-kept.saved c.loop-kept.kept-index c.kept-item.result (get_or c.loop-kept.saved c.loop-kept.kept-index c.kept-item.result) (omega (arith, c.loop-kept-test.true, c.loop-kept.auto.kept-index-end, c.loop-kept.auto.saved))));
}
