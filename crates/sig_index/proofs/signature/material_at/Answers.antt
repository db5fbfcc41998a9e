use Rattle.std.proofs.Common.{◌∙◌}
use Rattle.sig_index.proofs.BoundLemmas.{counts_bounded}
use Rattle.sig_index.proofs.signature.material_at.Goals as goal

pub returns-clause-bounded : goal.returns-clause-bounded
returns-clause-bounded c = counts_bounded c.args.last.now _ c.requires.sound (c.capped.ensures.material c.args.last.now.board (c.numbers.ensures.numbers ∙ c.of.ensures.counts))
