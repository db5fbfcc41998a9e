use Rattle.game_codec.proofs.MeetLaws.{come_end, come_fault}
use Rattle.game_codec.proofs.all_walk.Lines.next_move.Goals as goal

pub returns-in-Err : goal.returns-in-Err
returns-in-Err c = record { gone = come_fault c.args.self.now c.loop-breach.self c.meet.new.self c.loop-breach.invariant c.in-Err.breach c.in-Err.ensures.met }

pub returns-in-Ok-End : goal.returns-in-Ok-End
returns-in-Ok-End c = record { gone = come_end c.args.self.now c.loop-breach.self c.meet.new.self c.loop-breach.invariant (rw c.in-Ok-End.field-0-is at c.in-Ok-End.ensures.met) }
