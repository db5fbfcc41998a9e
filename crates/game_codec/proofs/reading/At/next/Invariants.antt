use Rattle.std.proofs.Common.{length}
use Rattle.game_codec.specs.Reading.{Passes}
use Rattle.game_codec.proofs.reading.At.next.Given as goal

abbrev pub invariant-items : goal.invariant-items
invariant-items l = Passes l.fn.self l.self

abbrev pub decreases-items : goal.decreases-items
decreases-items l = length l.self.rest.now
