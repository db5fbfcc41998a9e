use Rattle.std.proofs.Common.{length}
use Rattle.game_codec.specs.Tallying.{HasTallied}
use Rattle.game_codec.proofs.checking.+check_line.Given as goal

abbrev pub decreases-check_line : goal.decreases-check_line
decreases-check_line l = length l.bytes.now

abbrev pub invariant-items : goal.invariant-items
invariant-items l = HasTallied l.fn.place l.bytes l.here l.rest l.fn.tally l.tally

abbrev pub decreases-items : goal.decreases-items
decreases-items l = length l.rest
