use Rattle.chess_laws.proofs.Words.{◌*◌, ◌%◌, ◌^◌, ap}
use Rattle.chess_laws.proofs.Remaining.{leaves-entered}
use Rattle.chess_laws.proofs.left.Left.entered.Goals as goal

pub returns : goal.returns
returns c = λ men new colour kind squares l.
    leaves-entered men new colour kind c.args.self.men c.args.self.occupied c.args.s _ squares c.index.ensures.on_board
    (ap (λ n. 1 * 2 ^ n % 18446744073709551616) c.index.ensures.number) l
