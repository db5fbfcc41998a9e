use Rattle.std.proofs.Common.{◌∙◌, arith}
use Rattle.book_pages.proofs.OrderLemmas.{up_to}
use Rattle.book_pages.proofs.order.Order.of.Goals as goal

pub loop-page-preserved : goal.loop-page-preserved
loop-page-preserved c = record {
  are = c.in_ok-gone.ensures.kept.are;
  pages = c.in_ok-gone.ensures.kept.pages ∙ c.in_ok-find.ensures.kept.pages ∙ c.loop-page.invariant.pages;
  all = up_to c.loop-page.finding.found.items c.find.new.self.found.items c.go_on.new.self.found.items c.loop-page.page c.loop-page.invariant.all
      c.in_ok-find.ensures.kept.stay
      (c.in_ok-find.ensures.there (omega (arith, c.loop-page-test.true, c.len-page-end.ensures.len, c.loop-page.invariant.pages)))
      c.in_ok-gone.ensures.kept.stay;
}
