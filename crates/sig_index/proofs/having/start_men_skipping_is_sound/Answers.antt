use Rattle.sig_index.proofs.HavingLemmas.{initial, skipping_sound}
use Rattle.sig_index.proofs.having.start_men_skipping_is_sound.Goals as goal

pub returns : goal.returns
returns c = record { sound = skipping_sound; start = initial }
