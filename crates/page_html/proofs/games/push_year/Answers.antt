use Rattle.std.proofs.Common.{◌∙◌}
use Rattle.std.specs.Prelude.{codes}
use Rattle.page_html.specs.Listing.{known, year_cell}
use Rattle.page_html.proofs.Pieces.{three}
use Rattle.page_html.proofs.games.push_year.Goals as goal

pub returns : goal.returns
unfolding year_cell
returns c = record {
  cell = c.in_ok-extend_from_slice-2.ensures.items
      ∙ three c.args.out.now.items (codes "</td><td class=\"year\">") (known c.args.year) (codes "</td></tr>\n") c.extend_from_slice.new.self.items c.push_known.new.out.items
      c.in_ok-extend_from_slice.ensures.items c.in_ok-push_known.ensures.added;
}
