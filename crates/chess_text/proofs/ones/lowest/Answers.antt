use Rattle.chess_text.proofs.OnesLaws.{lowest_one}
use Rattle.chess_text.proofs.ones.lowest.Goals as goal

pub returns : goal.returns
returns c = record { set = lowest_one c.args.word c.at.result c.requires.some c.ranges.word.fits (cc) }
