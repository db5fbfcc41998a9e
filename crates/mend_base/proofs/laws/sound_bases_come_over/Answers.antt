use Rattle.mend_base.proofs.WholeLaws.{comes}
use Rattle.mend_base.proofs.laws.sound_bases_come_over.Goals as goal

pub returns : goal.returns
returns c = record { over = comes }
