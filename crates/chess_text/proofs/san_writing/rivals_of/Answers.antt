use Rattle.chess_text.proofs.RivalLaws.{all-rivals, no-rivals}
use Rattle.chess_text.proofs.san_writing.rivals_of.Goals as goal

pub men-init : goal.men-init
men-init c = no-rivals c.args.p.now c.args.kind c.args.m.now c.of_man-left.result (cc)

pub men-preserved : goal.men-preserved
men-preserved c = c.with_square-seen.ensures.tried c.men.left c.without-left.result c.without-left.ensures.drops c.men.invariant

pub returns : goal.returns
returns c = record { found = all-rivals c.args.p.now c.args.kind c.args.m.now c.men.left c.men.seen (search) c.men.invariant }
