use Rattle.sig_index.proofs.HeldLemmas.{held_stays}
use Rattle.sig_index.proofs.SigOf.{signature_one}
use Rattle.sig_index.proofs.laws.held_records_stay.Goals as goal

pub returns : goal.returns
returns c = record { one_signature = signature_one; unchanged = held_stays }
