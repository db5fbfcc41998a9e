use Rattle.sig_index.proofs.SkippingLemmas.{skipping_sound}
use Rattle.sig_index.proofs.skipping.material_skipping_is_sound.Goals as goal

pub returns : goal.returns
returns c = record { sound = skipping_sound }
