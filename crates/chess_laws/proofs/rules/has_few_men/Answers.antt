use Rattle.chess_laws.proofs.Soundness.{few_white, few_black}
use Rattle.chess_laws.proofs.rules.has_few_men.Goals as goal

pub returns-then-count_side-le16-clause-few : goal.returns-then-count_side-le16-clause-few
returns-then-count_side-le16-clause-few c =
    few_black c.args.board.now c.count_side.result c.count_side-then-count_side-le16.result c.if-count_side-le16.true c.count_side.ensures.number c.count_side-then-count_side-le16.ensures.number

pub returns-else-count_side-le16-clause-few : goal.returns-else-count_side-le16-clause-few
returns-else-count_side-le16-clause-few c =
    few_white c.args.board.now c.count_side.result c.if-count_side-le16.false c.count_side.ensures.number
