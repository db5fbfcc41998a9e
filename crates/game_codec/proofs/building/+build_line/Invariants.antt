use Rattle.std.proofs.Common.{length}
use Rattle.game_codec.proofs.DealLaws.{HasBuilt}
use Rattle.game_codec.proofs.building.+build_line.Given as goal

abbrev pub decreases-build_line : goal.decreases-build_line
decreases-build_line l = length l.bytes.now

abbrev pub invariant-items : goal.invariant-items
invariant-items l = HasBuilt l.fn.place l.bytes l.place l.rest l.texts l.left l.fn.builder l.builder

abbrev pub decreases-items : goal.decreases-items
decreases-items l = length l.rest
