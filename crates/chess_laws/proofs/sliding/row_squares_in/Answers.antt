use Rattle.chess_laws.proofs.Reached.{ray-free, ray-met}
use Rattle.chess_laws.proofs.sliding.row_squares_in.Goals as goal

pub returns-in-None : goal.returns-in-None
returns-in-None c = λ men full b.
    let none = rw (c.index.ensures.number, full) at c.in-None.ensures.some in
    rw c.index.ensures.number (ray-free c.args.table.now c.args.row c.requires.says c.requires.row men c.args.from b c.index.ensures.on_board none)

pub returns-in-Some : goal.returns-in-Some
returns-in-Some c = λ men full b.
    let some = rw (c.index.ensures.number, full) at c.in-Some.ensures.some in
    let first = rw (c.index.ensures.number, full) at c.in-Some.ensures.first in
    rw c.index.ensures.number
    (ray-met c.args.table.now c.args.row c.requires.says c.requires.row men c.args.from b c.index.ensures.on_board c.in-Some.first some.0 some.1 first)
