use Rattle.pos_search.proofs.FollowLemmas.{no_variations, refused, refused_first}
use Rattle.pos_search.proofs.laws.tests_are_sound.Goals as goal

pub returns : goal.returns
returns c = record { sound = refused; first = refused_first; variations = no_variations }
