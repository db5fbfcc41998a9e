use Rattle.std.proofs.Common.{◌∙◌}
use Rattle.scid_page.proofs.PuttingLemmas.{put_stays, stay_on}
use Rattle.scid_page.proofs.pages.write_games.Goals as goal

pub loop-number-preserved : goal.loop-number-preserved
loop-number-preserved g c = record {
  seen = c.push_game.ensures.unchanged ∙ c.loop-number.invariant.seen;
  stay = stay_on (g.S.Shelf.told c.args.shelf.now) (g.S.Shelf.told c.loop-number.shelf) (g.S.Shelf.told c.put.new.self) c.loop-number.invariant.stay
      (put_stays (g.S.Shelf.told c.loop-number.shelf) (g.S.Shelf.told c.put.new.self) _ c.in_ok-put.ensures.told);
}
