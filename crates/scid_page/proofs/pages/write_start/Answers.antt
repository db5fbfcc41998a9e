use Rattle.scid_page.proofs.PuttingLemmas.{page_stays, put_stays, stay_on}
use Rattle.scid_page.proofs.pages.write_start.Goals as goal

pub returns-clause-stay : goal.returns-clause-stay
returns-clause-stay g c =
    stay_on (g.S.Shelf.told c.args.shelf.now) (g.S.Shelf.told c.put_page.new.shelf) (g.S.Shelf.told c.put.new.self) c.in_ok-put_page.ensures.stay
    (put_stays (g.S.Shelf.told c.put_page.new.shelf) (g.S.Shelf.told c.put.new.self) _ c.in_ok-put.ensures.told)

pub returns-clause-page : goal.returns-clause-page
returns-clause-page g c = λ heads page.
    page_stays c.args.book.now heads 0 (g.S.Shelf.told c.put_page.new.shelf) (g.S.Shelf.told c.put.new.self)
    (put_stays (g.S.Shelf.told c.put_page.new.shelf) (g.S.Shelf.told c.put.new.self) _ c.in_ok-put.ensures.told) (c.in_ok-put_page.ensures.page heads page)
