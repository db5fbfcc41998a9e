use Rattle.std.proofs.Common.{length}
use Rattle.game_codec.proofs.PassLaws.{HasCome}
use Rattle.game_codec.proofs.passing.pass_marks.Given as goal

abbrev pub invariant-loop-used : goal.invariant-loop-used
invariant-loop-used l = HasCome l.bytes l.rest

abbrev pub decreases-loop-used : goal.decreases-loop-used
decreases-loop-used l = length l.rest
