use Rattle.std.proofs.Common.{ap, subst, ◌∙◌}
use Rattle.sig_index.specs.declared.pos_query.PosQuery.{PosQuery}
use Rattle.cell_core.specs.Board.{Men}
use Rattle.pos_search.specs.Passing.{has_homes}
use Rattle.pos_search.specs.Sought.{AreHomes}
use Rattle.pos_search.proofs.matching.Sought.has_homes.Goals as goal

pub returns : goal.returns
returns c =
    let sought = c.args.self.now.board in
    c.stand_on.ensures sought (subst (λ (q : PosQuery). AreHomes q.board c.self.inside.at_home) c.self.view_is c.self.invariant.stand)
    ∙ ap (has_homes sought) c.board.ensures.board
