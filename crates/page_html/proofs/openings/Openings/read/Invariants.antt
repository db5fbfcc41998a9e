use Rattle.std.proofs.Common.{length}
use Rattle.page_html.proofs.openings.Openings.read.Given as goal

abbrev pub decreases-loop-rest : goal.decreases-loop-rest
decreases-loop-rest l = length l.rest
