use Rattle.std.proofs.Common.{◌∙◌}
use Rattle.std.specs.Prelude.{codes}
use Rattle.page_html.specs.Table.{cell, cell_start, share}
use Rattle.page_html.proofs.Pieces.{three}
use Rattle.page_html.proofs.cells.push_share_cell.Goals as goal

pub returns : goal.returns
unfolding cell
returns c = record {
  added = c.in_ok-extend_from_slice.ensures.items
      ∙ three c.args.out.now.items (cell_start c.args.class.now) (share c.args.part c.args.whole) (codes "</td>") c.begin_cell.new.out.items c.push_share.new.out.items
      c.in_ok-begin_cell.ensures.added c.in_ok-push_share.ensures.added;
}
