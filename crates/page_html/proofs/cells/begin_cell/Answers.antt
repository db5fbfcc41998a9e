use Rattle.std.proofs.Common.{◌∙◌}
use Rattle.std.specs.Prelude.{codes}
use Rattle.page_html.specs.Table.{cell_start}
use Rattle.page_html.proofs.Pieces.{three}
use Rattle.page_html.proofs.cells.begin_cell.Goals as goal

pub returns : goal.returns
unfolding cell_start
returns c = record {
  added = c.in_ok-extend_from_slice-3.ensures.items
      ∙ three c.args.out.now.items (codes "<td class=\"") c.args.class.now (codes "\">") c.extend_from_slice.new.self.items c.extend_from_slice-2.new.self.items
      c.in_ok-extend_from_slice.ensures.items c.in_ok-extend_from_slice-2.ensures.items;
}
