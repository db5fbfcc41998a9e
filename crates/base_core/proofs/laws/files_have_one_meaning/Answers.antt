use Rattle.base_core.proofs.OneBase.{means-one}
use Rattle.base_core.proofs.OneFault.{first_fault-one}
use Rattle.base_core.proofs.laws.files_have_one_meaning.Goals as goal

pub returns : goal.returns
returns c = record { one_base = means-one; one_fault = first_fault-one }
