use Rattle.page_html.proofs.Pieces.{two_behind}
use Rattle.page_html.specs.Listing.{games_table}
use Rattle.page_html.specs.Page.{page_end}
use Rattle.page_html.specs.Table.{table}
use Rattle.page_html.proofs.site.Site.push_page.Goals as goal

pub returns-clause-page : goal.returns-clause-page
returns-clause-page g c = λ board rows is_board is_rows. record {
  front = (c.in_ok-push_body.ensures.table board rows is_board is_rows).front;
  listed = c.listed.result.now;
  others = c.leads_to_others.result;
  whole = two_behind (c.in_ok-push_body.ensures.table board rows is_board is_rows).front (table c.args.self.now.boards board rows)
      (games_table _ c.listed.result.now) (page_end _) c.push_body.new.out.items c.push_games.new.out.items c.push_end.new.out.items
      (c.in_ok-push_body.ensures.table board rows is_board is_rows).whole c.in_ok-push_games.ensures.added c.in_ok-push_end.ensures.added;
}
