use Rattle.mend_base.proofs.FindLaws.{place-same}
use Rattle.mend_base.proofs.laws.whole_games_stay_as_they_are.Goals as goal

pub returns : goal.returns
returns c = record { same = place-same }
