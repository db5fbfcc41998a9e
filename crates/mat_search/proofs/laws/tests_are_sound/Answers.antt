use Rattle.mat_search.proofs.PassLemmas.{refused}
use Rattle.mat_search.proofs.laws.tests_are_sound.Goals as goal

pub returns : goal.returns
returns c = record { sound = refused }
