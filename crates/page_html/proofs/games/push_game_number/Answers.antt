use Rattle.std.proofs.Common.{◌∙◌}
use Rattle.std.specs.Prelude.{codes}
use Rattle.std.specs.Fmt.{decimal}
use Rattle.page_html.specs.Listing.{number_cell}
use Rattle.page_html.proofs.Pieces.{three}
use Rattle.page_html.proofs.games.push_game_number.Goals as goal

pub returns : goal.returns
unfolding number_cell
returns c = record {
  cell = c.in_ok-extend_from_slice-2.ensures.items
      ∙ three c.args.out.now.items (codes "<tr><td class=\"number\">") (decimal c.args.number) (codes "</td><th scope=\"row\">") c.extend_from_slice.new.self.items c.push_number.new.out.items
      c.in_ok-extend_from_slice.ensures.items c.in_ok-push_number.ensures.added;
}
