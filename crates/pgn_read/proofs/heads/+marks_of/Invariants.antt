use Rattle.std.proofs.Common.{length}
use Rattle.pgn_read.proofs.heads.+marks_of.Given as goal

abbrev pub decreases-marks_of : goal.decreases-marks_of
decreases-marks_of l = length l.letters.now
