use Rattle.std.proofs.Common.{◌∙◌}
use Rattle.tree_rows.specs.MoveText.{IsKey}
use Rattle.tree_rows.proofs.Placing.{all_in_order}
use Rattle.page_html.proofs.moves.push_body.Goals as goal

pub push_rows-requires : goal.push_rows-requires
push_rows-requires c = record {
  keys = all_in_order (λ row. IsKey c.args.here.now.board c.args.here.now.side row.key) c.args.rows.now c.as_slice.result.now
      (c.as_slice.ensures.value ∙ c.in_ok-sorted.ensures.order) c.requires.keys;
}
