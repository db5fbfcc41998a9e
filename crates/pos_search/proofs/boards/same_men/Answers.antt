use Rattle.std.proofs.Common.{ne_eqb, ◌∙◌}
use Rattle.pos_search.proofs.MatchLemmas.{pawns_apart}
use Rattle.pos_search.proofs.boards.same_men.Goals as goal

pub returns-else-of_kind : goal.returns-else-of_kind
returns-else-of_kind c =
    ne_eqb _ _ c.if-of_kind.false
    ∙ pawns_apart c.args.a.now c.args.b.now c.of_kind.result c.of_kind-2.result c.of_kind.ensures.squares c.of_kind-2.ensures.squares c.if-of_kind.false
