use Rattle.std.proofs.Common.{◌∙◌}
use Rattle.std.proofs.lemmas.Option.{slice_get-get_or}
use Rattle.scid_page.proofs.PuttingLemmas.{one_more_page}
use Rattle.scid_page.proofs.pages.write_rest.Goals as goal

pub loop-page-preserved : goal.loop-page-preserved
loop-page-preserved g c = record {
  site = c.write_page.ensures.site ∙ c.loop-page.invariant.site;
  have = one_more_page c.args.book.now (g.G.Games.heads c.args.games.now) c.args.order.now c.loop-page.page-index _ (g.S.Shelf.told c.loop-page.shelf)
      (g.S.Shelf.told c.write_page.new.shelf) c.in_ok-write_page.ensures.stay
      (slice_get-get_or c.args.order.now c.loop-page.page-index 0 c.loop-page-test.true) c.in_ok-write_page.ensures.page c.loop-page.invariant.have;
}
