use Rattle.std.proofs.Common.{subst}
use Rattle.std.proofs.lemmas.List.Elements.{All-nil, All-more}
use Rattle.tree_rows.specs.Rows.{IsHit}
use Rattle.tree_rows.proofs.RowLaws.{room-at}
use Rattle.tree_rows.proofs.Adding.{rows_more}
use Rattle.tree_rows.proofs.rows.Rows.from_scratch.Goals as goal

pub loop-hit-init : goal.loop-hit-init
loop-hit-init c = record { rows = c.new-rows.ensures.none; ranges = All-nil IsHit }

pub add-requires : goal.add-requires
add-requires c = record {
  room = room-at c.loop-hit.rows c.args.hits.now c.loop-hit.hit-index c.loop-hit-test.true c.requires.few c.loop-hit.invariant.rows c.loop-hit.invariant.ranges;
}

pub loop-hit-preserved : goal.loop-hit-preserved
loop-hit-preserved c = record {
  rows = rows_more c.args.hits.now c.loop-hit.rows c.add.new.self c.hit-item.result c.loop-hit.hit-index c.loop-hit-test.true c.hit-item.is
      c.loop-hit.invariant.rows c.in_ok-add.ensures.added;
  ranges = All-more IsHit c.args.hits.now c.loop-hit.hit-index c.hit-item.result c.loop-hit-test.true c.loop-hit.invariant.ranges
      (subst IsHit c.hit-item.is c.in_ok-add.ensures.hit);
}
