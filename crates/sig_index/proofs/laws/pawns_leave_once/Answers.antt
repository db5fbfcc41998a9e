use Rattle.sig_index.proofs.LeftLemmas.{left_once}
use Rattle.sig_index.proofs.StepLemmas.{left_by_moves}
use Rattle.sig_index.proofs.laws.pawns_leave_once.Goals as goal

pub returns : goal.returns
returns c = record { once = left_once; each_move = left_by_moves }
