use Rattle.base_core.proofs.GamesLaws.{heads-are, holds}
use Rattle.base_core.proofs.laws.searches_see_the_games.Goals as goal

pub returns : goal.returns
returns c = record { holds = holds; heads = heads-are }
