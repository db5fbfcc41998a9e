use Rattle.std.proofs.Common.{ap, ◌∙◌, Some, sym, subst}
use Rattle.sig_index.specs.Signature.{IsSigBounded}
use Rattle.sig_index.specs.declared.signature.Sig.{Sig}
use Rattle.base_core.proofs.games.BaseGames.sig.Goals as goal

pub returns-clause-kept : goal.returns-clause-kept
returns-clause-kept c = c.brief.ensures.kept ∙ ap (λ (s : Sig). Some s) (sym c.whole.ensures.whole)

pub returns-clause-bounded : goal.returns-clause-bounded
returns-clause-bounded c = subst IsSigBounded (sym c.whole.ensures.whole) c.brief.ensures.bounded
