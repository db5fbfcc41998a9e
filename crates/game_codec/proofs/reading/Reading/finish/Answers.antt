use Rattle.std.proofs.Common.{subst}
use Rattle.game_codec.specs.Fault.{IsRecordFault}
use Rattle.game_codec.specs.Walk.{Walked}
use Rattle.game_codec.proofs.reading.Reading.finish.Goals as goal

pub returns-in-Err-clause-fault : goal.returns-in-Err-clause-fault
returns-in-Err-clause-fault c =
    subst (λ (w : Walked). IsRecordFault w.bytes c.fault_at.result) c.self.view_is
    (c.fault_at.ensures.first (c.in-Err.ensures.fault c.self.inside.bytes.now c.self.invariant.read))
