use Rattle.std.proofs.Common.{length}
use Rattle.game_codec.proofs.DateLaws.{DatesFrom}
use Rattle.game_codec.proofs.event_date.event_date_in.Given as goal

abbrev pub invariant-tags : goal.invariant-tags
invariant-tags l = DatesFrom l.game l.bytes l.rest

abbrev pub decreases-tags : goal.decreases-tags
decreases-tags l = length l.rest
