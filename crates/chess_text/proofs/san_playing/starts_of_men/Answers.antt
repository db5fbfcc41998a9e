use Rattle.chess_text.proofs.StartLaws.{starts_all, starts_first, starts_next}
use Rattle.chess_text.proofs.san_playing.starts_of_men.Goals as goal

pub men-init : goal.men-init
men-init c = starts_first c.args.p.now c.args.g.now c.of_man-left.result (cc)

pub men-preserved : goal.men-preserved
men-preserved c =
    starts_next c.args.p.now c.args.g.now c.lowest-from.result c.men.left c.without-left.result c.men.starts c.with_start-starts.result c.men.invariant
    c.with_start-starts.ensures.with c.without-left.ensures.drops
