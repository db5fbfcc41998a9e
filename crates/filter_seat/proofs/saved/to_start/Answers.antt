use Rattle.std.proofs.Common.{◌∙◌}
use Rattle.filter_seat.proofs.SavedLaws.{to_start_if_in, to_start_if_out}
use Rattle.filter_seat.proofs.saved.to_start.Goals as goal

pub returns-then-is_some : goal.returns-then-is_some
returns-then-is_some c = record { put = c.set.ensures.changed ∙ to_start_if_in c.args.i c.get-ply.result c.args.filter.now c.get-ply.ensures.entry (cc (c.is_some.ensures, c.if-is_some.true)) }

pub returns-else-is_some : goal.returns-else-is_some
returns-else-is_some c = record { put = to_start_if_out c.args.i c.get-ply.result c.args.filter.now c.get-ply.ensures.entry (cc (c.is_some.ensures, c.if-is_some.false)) }
