use Rattle.std.proofs.Common.{◌∙◌}
use Rattle.std.specs.Prelude.{codes}
use Rattle.std.specs.Fmt.{decimal}
use Rattle.page_html.specs.Table.{bar_start}
use Rattle.page_html.proofs.Pieces.{three}
use Rattle.page_html.proofs.cells.begin_bar.Goals as goal

pub returns : goal.returns
unfolding bar_start
returns c = record {
  added = c.in_ok-extend_from_slice-2.ensures.items
      ∙ three c.args.out.now.items (codes "<svg aria-hidden=\"true\" preserveAspectRatio=\"none\" viewBox=\"0 0 ") (decimal c.args.width) (codes " 1\">")
      c.extend_from_slice.new.self.items c.push_number.new.out.items c.in_ok-extend_from_slice.ensures.items c.in_ok-push_number.ensures.added;
}
