use Rattle.base_core.proofs.SomeBase.{decided_by}
use Rattle.base_core.proofs.laws.decide.Goals as goal

pub returns : goal.returns
returns c = record { decided = decided_by c.signed-signed.result c.args.bytes.now c.signed-signed.ensures.signed c.signed-signed.ensures.fault }
