-- The mover's man goes to its target, and what else the move changes follows.
use Rattle.chess_laws.proofs.Words.{◌≡◌, length, None, Some, King, Pawn, Rook, put, man, other, CastleCase, DoubleCase, PassingCase, PlainCase}
use Rattle.chess_laws.proofs.Boards.{length-put, relocate}
use Rattle.chess_laws.proofs.Keeping.{arriving-lands, lands_as, length-moved}
use Rattle.chess_laws.proofs.left.Left.after.Goals as goal

pub returns-in-Null : goal.returns-in-Null
returns-in-Null c = rw (c.in-Null.is, ← c.other.ensures.side) c.of-before.ensures

pub returns-in-Plain : goal.returns-in-Plain
returns-in-Plain c =
    let p = c.args.p.now in
    let m = c.args.m.now in
    let case : PlainCase p m = rw c.in-Plain.is at c.requires.allowed in
    rw (c.in-Plain.is, arriving-lands p m case.kind m.promo case.stands)
    (c.moved.ensures p.board p.board p.side (lands_as case.kind m.promo) c.requires.sound.squares (rw (← c.other.ensures.side) c.of-before.ensures))

pub returns-in-Double : goal.returns-in-Double
returns-in-Double c =
    let p = c.args.p.now in
    let case : DoubleCase p c.args.m.now = rw c.in-Double.is at c.requires.allowed in
    rw (c.in-Double.is, case.promo, case.stands)
    (c.moved-in-Double.ensures p.board p.board p.side Pawn c.requires.sound.squares (rw (← c.other.ensures.side) c.of-before.ensures))

pub returns-in-Passing : goal.returns-in-Passing
returns-in-Passing c =
    let p = c.args.p.now in
    let m = c.args.m.now in
    let case : PassingCase p m = rw c.in-Passing.is at c.requires.allowed in
    let squares = rw (case.promo, case.stands) at (length-moved p m c.requires.sound.squares) in
    rw (c.in-Passing.is, case.promo, case.stands, ← c.passed_square.ensures.square)
    (c.emptied.ensures p.board _ (other p.side) squares
    (c.moved-in-Passing.ensures p.board p.board p.side Pawn c.requires.sound.squares (rw (← c.other.ensures.side) c.of-before.ensures)))

pub returns-in-Castle : goal.returns-in-Castle
returns-in-Castle c =
    let p = c.args.p.now in
    let m = c.args.m.now in
    let case : CastleCase p m c.in-Castle.wing = rw c.in-Castle.is at c.requires.allowed in
    let new = relocate p.board m.from m.to (Some (man p.side King)) in
    let squares : length new ≡ 64 = rw (case.promo, case.stands) at (length-moved p m c.requires.sound.squares) in
    rw (c.in-Castle.is, case.promo, case.stands, ← c.rook_home.ensures.square, ← c.rook_target.ensures.square)
    (c.entered.ensures p.board (put new c.rook_home.result None) p.side Rook (length-put new c.rook_home.result None squares)
    (c.emptied-in-Castle.ensures p.board new (other p.side) squares
    (c.moved-in-Castle.ensures p.board p.board p.side King c.requires.sound.squares (rw (← c.other.ensures.side) c.of-before.ensures))))
