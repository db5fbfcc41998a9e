use Rattle.sig_index.proofs.SigOf.{parts}
use Rattle.sig_index.proofs.laws.own_starts_are_marked.Goals as goal

pub returns : goal.returns
returns c = record { marked = λ game sig is. (parts game sig is).own_start }
