use Rattle.std.proofs.Common.{◌∙◌}
use Rattle.std.specs.Prelude.{codes}
use Rattle.page_html.specs.Listing.{known, rating_cell}
use Rattle.page_html.proofs.Pieces.{three}
use Rattle.page_html.proofs.games.push_rating.Goals as goal

pub returns : goal.returns
unfolding rating_cell
returns c = record {
  cell = c.in_ok-extend_from_slice-2.ensures.items
      ∙ three c.args.out.now.items (codes "<td class=\"rating\">") (known c.args.rating) (codes "</td>") c.extend_from_slice.new.self.items c.push_known.new.out.items
      c.in_ok-extend_from_slice.ensures.items c.in_ok-push_known.ensures.added;
}
