-- The kept range has the sought counts alone.
use Rattle.std.proofs.Common.{ap, ◌∙◌}
use Rattle.chess_laws.specs.Counts.{counts_of}
use Rattle.sig_index.specs.Coming.{can_come}
use Rattle.sig_index.specs.declared.pos_query.PosQuery.{PosQuery}
use Rattle.pos_search.specs.Passing.{just}
use Rattle.pos_search.proofs.matching.Sought.men_can_come.Goals as goal

pub returns : goal.returns
returns c =
    let range = c.self.invariant.counted ∙ ap (λ (p : PosQuery). just (counts_of p.board)) c.self.view_is in
    c.can_come.ensures.comes ∙ (λ i. can_come (range i) (c.numbers.ensures.numbers i))
