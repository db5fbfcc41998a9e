use Rattle.std.proofs.Common.{length}
use Rattle.game_codec.proofs.PassLaws.{HasPassed}
use Rattle.game_codec.proofs.passing.variation_len.Given as goal

abbrev pub invariant-loop-depth : goal.invariant-loop-depth
invariant-loop-depth l = HasPassed l.bytes l.rest l.depth

abbrev pub decreases-loop-depth : goal.decreases-loop-depth
decreases-loop-depth l = length l.rest
