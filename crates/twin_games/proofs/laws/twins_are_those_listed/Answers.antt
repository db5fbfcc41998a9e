use Rattle.twin_games.proofs.ListLemmas.{listed_are_twins, twins_rise}
use Rattle.twin_games.proofs.laws.twins_are_those_listed.Goals as goal

pub returns : goal.returns
returns c = record { listed = listed_are_twins; rising = twins_rise }
