use Rattle.std.proofs.Common.{ap}
use Rattle.index_entry.proofs.SoundLemmas.{passed}
use Rattle.sig_index.specs.Signature.{sig_in}
use Rattle.sig_index.proofs.brief.entry_with.Goals as goal

pub returns : goal.returns
returns c = record { sig = ap sig_in (passed c.pack.result _ c.pack.ensures.read_again).1 }
