use Rattle.chess_text.proofs.CameLaws.{men_start, men_next}
use Rattle.chess_text.proofs.san_reading.by_men.Goals as goal

pub men-init : goal.men-init
men-init c = men_start c.args.p.now c.args.g.now c.of_man-left.result (cc)

pub men-preserved : goal.men-preserved
men-preserved c =
    men_next c.args.p.now c.args.g.now c.lowest-from.result c.men.left c.without-left.result c.men.found c.in_ok-found.found c.men.invariant
    c.in_ok-found.ensures.tried c.without-left.ensures.drops
