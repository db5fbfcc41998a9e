use Rattle.chess_laws.proofs.Words.{None, put, other}
use Rattle.chess_laws.proofs.legal.slides_without.Goals as goal

pub returns : goal.returns
returns c =
    let p = c.args.p.now in
    rw (← c.other-enemy.ensures.side)
    (c.slides_left.ensures (put p.board c.args.from None)
    (c.emptied-left.ensures p.board p.board c.other-enemy.result c.requires.squares c.of.ensures))
