use Rattle.cross_table.proofs.Sharing.{shared_points}
use Rattle.cross_table.proofs.laws.half_points_are_shared.Goals as goal

pub returns : goal.returns
returns c = record { shared = shared_points }
