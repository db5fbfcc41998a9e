use Rattle.chess_laws.proofs.Words.{None, put, other}
use Rattle.chess_laws.proofs.Boards.{length-put}
use Rattle.chess_laws.proofs.left.Left.moved.Goals as goal

pub returns : goal.returns
returns c = λ men new colour kind squares l.
    c.entered.ensures men (put new c.args.m.now.from None) colour kind (length-put new c.args.m.now.from None squares) (c.emptied.ensures men new (other colour) squares l)
