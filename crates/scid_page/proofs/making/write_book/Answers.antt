use Rattle.std.proofs.Common.{ℕ, List, sym, subst}
use Rattle.base_core.specs.Represents.{heads_of}
use Rattle.scid_page.specs.Putting.{IsPageAt}
use Rattle.scid_page.proofs.MakingLemmas.{all_pages}
use Rattle.scid_page.proofs.making.write_book.Goals as goal

pub returns : goal.returns
returns g c = record {
  pages =
      all_pages c.args.book.now (heads_of c.args.base.now) c.in_ok-order.order c.pages.result.now (g.S.Shelf.told c.write_pages.new.shelf)
      (g.S.Shelf.told c.write_others.new.shelf) (g.S.Shelf.told c.write_games.new.shelf) (g.S.Shelf.told c.write_start.new.shelf) c.pages.ensures.pages
      c.in_ok-order.ensures.all c.in_ok-first.ensures.rest c.in_ok-write_others.ensures.stay c.in_ok-write_games.ensures.stay
      c.in_ok-write_start.ensures.stay
      (c.in_ok-write_start.ensures.page (heads_of c.args.base.now)
      (subst (λ (text : List ℕ). IsPageAt c.args.book.now (heads_of c.args.base.now) 0 text) (sym c.as_slice.ensures.value) c.in_ok-first.ensures.first));
}
