use Rattle.std.proofs.Common.{length}
use Rattle.game_codec.specs.Reading.{Reads}
use Rattle.game_codec.proofs.reading.At.to_end.Given as goal

abbrev pub invariant-moves : goal.invariant-moves
invariant-moves l = Reads l.fn.self l.self

abbrev pub decreases-moves : goal.decreases-moves
decreases-moves l = length l.self.rest.now
