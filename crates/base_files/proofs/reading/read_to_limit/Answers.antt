use Rattle.base_files.proofs.Telling.{advances_twice}
use Rattle.base_files.proofs.reading.read_to_limit.Goals as goal

pub returns-then-n-room-clause-advanced : goal.returns-then-n-room-clause-advanced
returns-then-n-room-clause-advanced g c = advances_twice _ _ _ _ _ c.pieces.invariant.whole c.in-Ok.ensures.given
