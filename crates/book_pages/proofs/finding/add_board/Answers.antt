use Rattle.std.proofs.Common.{◌∙◌, arith}
use Rattle.book_pages.proofs.ReachLemmas.{cut_full, cut_more}
use Rattle.book_pages.proofs.finding.add_board.Goals as goal

pub returns-in_ok-insert : goal.returns-in_ok-insert
returns-in_ok-insert c = record {
  added = λ all is.
      c.in_ok-insert.ensures.keys
      ∙ cut_more 20000 all c.args.boards.now.keys c.args.board.now is (let len = c.len.ensures.len in omega (arith, len, c.if-len-lt-MOST_PAGES.true));
}

pub returns-else-len-lt-MOST_PAGES : goal.returns-else-len-lt-MOST_PAGES
returns-else-len-lt-MOST_PAGES c = record {
  added = λ all is. cut_full 20000 all c.args.boards.now.keys c.args.board.now is (let len = c.len.ensures.len in omega (arith, len, c.if-len-lt-MOST_PAGES.false));
}
