use Rattle.mend_base.proofs.LooseLaws.{entries-first}
use Rattle.mend_base.proofs.laws.entries_come_first.Goals as goal

pub returns : goal.returns
returns c = record { first = entries-first }
