use Rattle.std.proofs.Common.{length}
use Rattle.game_codec.proofs.MeetLaws.{HasCome}
use Rattle.game_codec.proofs.all_walk.Lines.next_move.Given as goal

abbrev pub invariant-loop-breach : goal.invariant-loop-breach
invariant-loop-breach l = HasCome l.fn.self l.self

abbrev pub decreases-loop-breach : goal.decreases-loop-breach
decreases-loop-breach l = length l.self.ahead.now
