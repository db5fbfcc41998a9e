use Rattle.chess_text.proofs.OnesLaws.{drops_one, fewer_ones}
use Rattle.chess_text.proofs.ones.without.Goals as goal

pub returns-clause-drops : goal.returns-clause-drops
returns-clause-drops c = rw c.index.ensures.number (drops_one c.args.word c.args.s c.ranges.word.fits (search))

pub returns-clause-fewer : goal.returns-clause-fewer
returns-clause-fewer c = rw c.index.ensures.number (fewer_ones c.args.word c.args.s (search))
