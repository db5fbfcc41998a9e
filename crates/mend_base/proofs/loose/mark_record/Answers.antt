use Rattle.std.proofs.Common.{arith}
use Rattle.mend_base.proofs.FindLaws.{ends-in}
use Rattle.mend_base.proofs.loose.mark_record.Goals as goal

pub cover-requires : goal.cover-requires
cover-requires c = record { within = omega (arith, ends-in c.args.end c.args.entry.now c.in-None.ensures.first, c.requires.long) }
