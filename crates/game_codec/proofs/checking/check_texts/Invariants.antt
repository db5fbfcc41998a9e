use Rattle.std.proofs.Common.{◌-◌, ◌≤◌}
use Rattle.game_codec.proofs.CheckLaws.{HasSeen}
use Rattle.game_codec.proofs.checking.check_texts.Given as goal

abbrev pub invariant-loop-read : goal.invariant-loop-read
invariant-loop-read l = HasSeen l.bytes l.rest l.read l.some × (l.read ≤ l.due)

abbrev pub decreases-loop-read : goal.decreases-loop-read
decreases-loop-read l = l.due - l.read
