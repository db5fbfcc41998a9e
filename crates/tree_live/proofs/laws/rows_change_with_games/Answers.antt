use Rattle.tree_live.proofs.FewLaws.{rows-few}
use Rattle.tree_live.proofs.StayingLaws.{rows-few-staying}
use Rattle.tree_live.proofs.laws.rows_change_with_games.Goals as goal

pub returns : goal.returns
returns c = record { few = rows-few; renumbered = rows-few-staying }
