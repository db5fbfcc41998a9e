-- What the functions read is what the places say.
use Rattle.std.proofs.Common.{◌∙◌, sym}
use Rattle.index_entry.proofs.ReadLemmas.{read_is}
use Rattle.index_entry.proofs.SoundLemmas.{read_is_sound_at}
use Rattle.index_entry.proofs.unpacking.unpack.Goals as goal

pub returns-clause-exact : goal.returns-clause-exact
returns-clause-exact c = c.read_entry.ensures ∙ sym (read_is c.args.b.now c.fits-b)

pub returns-clause-sound : goal.returns-clause-sound
returns-clause-sound c = read_is_sound_at c.args.b.now c.read_entry.result (c.read_entry.ensures ∙ sym (read_is c.args.b.now c.fits-b))
