use Rattle.book_pages.proofs.OrderLemmas.{goes_on}
use Rattle.book_pages.proofs.order.Finding.go_on.Goals as goal

pub loop-place-preserved : goal.loop-place-preserved
loop-place-preserved c =
    goes_on _ _ _ _ _ _ c.loop-place.invariant c.in_ok-go_behind.ensures.kept
