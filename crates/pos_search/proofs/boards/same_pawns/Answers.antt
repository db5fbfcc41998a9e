use Rattle.std.proofs.Common.{ne_eqb, ◌∙◌}
use Rattle.cell_core.specs.declared.man.Colour.TheVariants.{White}
use Rattle.pos_search.proofs.PawnLemmas.{told-apart, told-same}
use Rattle.pos_search.proofs.boards.same_pawns.Goals as goal

pub returns-then-of_man : goal.returns-then-of_man
returns-then-of_man c =
    told-same c.args.a.now c.args.b.now c.of_man.result c.of_man-2.result c.of_man-then-of_man.result c.of_man-then-of_man-2.result
    c.of_man.ensures.on_board c.of_man-2.ensures.on_board c.of_man.ensures.squares c.of_man-2.ensures.squares c.of_man-then-of_man.ensures.squares
    c.of_man-then-of_man-2.ensures.squares c.if-of_man.true

pub returns-else-of_man : goal.returns-else-of_man
returns-else-of_man c =
    ne_eqb _ _ c.if-of_man.false
    ∙ told-apart c.args.a.now c.args.b.now White c.of_man.result c.of_man-2.result c.of_man.ensures.on_board c.of_man-2.ensures.on_board
    c.of_man.ensures.squares c.of_man-2.ensures.squares c.if-of_man.false
