use Rattle.chess_laws.proofs.Words.{arith}
use Rattle.chess_laws.proofs.Shifts.{ahead_down}
use Rattle.chess_laws.proofs.cases.ahead.Goals as goal

pub returns-in-Black : goal.returns-in-Black
returns-in-Black c =
    rw c.in-Black.is (ahead_down c.args.s c.at-in-Black.result c.index-number.ensures.on_board
    (omega (arith, c.if-number-ge8.true, c.index-number.ensures.number, c.at-in-Black.ensures.numbered)))
