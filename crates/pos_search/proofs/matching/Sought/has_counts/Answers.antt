use Rattle.std.proofs.Common.{ap, ◌∙◌}
use Rattle.chess_laws.specs.Counts.{counts_of}
use Rattle.sig_index.specs.declared.pos_query.PosQuery.{PosQuery}
use Rattle.pos_search.proofs.MatchLemmas.{counts_same}
use Rattle.pos_search.proofs.matching.Sought.has_counts.Goals as goal

pub returns : goal.returns
returns c =
    counts_same c.args.p.now.board c.args.self.now.board c.self.inside.counts c.census.result.now c.is_same.result c.is_same.ensures.same
    (c.self.invariant.numbers ∙ ap (λ (p : PosQuery). counts_of p.board) c.self.view_is) c.census.ensures.counts
