use Rattle.book_pages.proofs.OrderLemmas.{goes_on}
use Rattle.book_pages.proofs.order.Finding.go_behind.Goals as goal

pub loop-to-preserved : goal.loop-to-preserved
loop-to-preserved c =
    goes_on _ _ _ _ _ _ c.loop-to.invariant c.in_ok-find.ensures.kept
