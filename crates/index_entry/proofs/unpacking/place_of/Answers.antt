-- The two fields, as they are read.
use Rattle.std.proofs.Common.{◌≡◌, ◌∙◌, ◌+◌, ◌*◌, ◌/◌, get_or, ap, sym}
use Rattle.index_entry.specs.Entry.{entry_in}
use Rattle.index_entry.proofs.ReadLemmas.{offset_read_is, len_read_is}
use Rattle.index_entry.proofs.unpacking.place_of.Goals as goal

pub returns-clause-offset : goal.returns-clause-offset
unfolding entry_in
returns-clause-offset c = c.quad.ensures ∙ sym (offset_read_is c.args.b.now c.fits-b)

pub returns-clause-len : goal.returns-clause-len
unfolding entry_in
returns-clause-len c = c.split.ensures ∙ ap (λ n. get_or c.args.b.now 6 0 / 128 * 65536 + n) c.word.ensures ∙ sym (len_read_is c.args.b.now c.fits-b)
