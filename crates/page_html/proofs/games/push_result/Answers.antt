use Rattle.std.proofs.Common.{◌∙◌}
use Rattle.std.specs.Prelude.{codes}
use Rattle.page_html.specs.Listing.{result_cell}
use Rattle.page_html.proofs.Pieces.{three}
use Rattle.page_html.proofs.games.push_result.Goals as goal

pub returns : goal.returns
unfolding result_cell
returns c = record {
  cell = c.in_ok-extend_from_slice-3.ensures.items
      ∙ three c.args.out.now.items (codes "<td class=\"result\">") c.args.text.now (codes "</td><td class=\"event\">") c.extend_from_slice.new.self.items c.extend_from_slice-2.new.self.items
      c.in_ok-extend_from_slice.ensures.items c.in_ok-extend_from_slice-2.ensures.items;
}
