use Rattle.std.proofs.Common.{eqb, ◌∙◌}
use Rattle.pos_search.proofs.ColumnLemmas.{pair-same}
use Rattle.pos_search.proofs.boards.same_pair.Goals as goal

pub returns : goal.returns
returns c = (λ i. eqb (c.pair.ensures i) (c.pair-2.ensures i)) ∙ pair-same c.args.a c.args.b c.args.file
