use Rattle.std.proofs.Common.{rules}
use Rattle.sig_index.proofs.BoundLemmas.{counts_bounded}
use Rattle.sig_index.proofs.signature.material_of.Goals as goal

pub returns-clause-bounded : goal.returns-clause-bounded
returns-clause-bounded c = counts_bounded c.args.last.now _ c.setup-setup.ensures.sound (c.capped.ensures.material c.args.last.now.board c.counts.ensures.counts)
