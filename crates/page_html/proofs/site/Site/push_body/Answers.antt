use Rattle.page_html.proofs.site.Site.push_body.Goals as goal

pub returns-clause-table : goal.returns-clause-table
returns-clause-table c = rw (← c.begin.ensures.same) (λ board rows is_board is_rows. record {
  front = _;
  whole = c.in_ok-push_moves.ensures.table board rows is_board is_rows;
})
