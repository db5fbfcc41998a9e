-- After an allowed move the mover's one king stands where it is looked for.
use Rattle.chess_laws.proofs.Words.{◌↔◌, IsTrue, other, Attacks, IsOnlyKing, board_after}
use Rattle.chess_laws.proofs.MovedKings.{only-king-after, safe-told}
use Rattle.chess_laws.proofs.legal.is_safe_after.Goals as goal

pub returns : goal.returns
returns c =
    let p = c.args.p.now in
    let m = c.args.m.now in
    let case = rw c.requires.effect at c.requires.allowed in
    let king : IsOnlyKing (board_after p m c.args.effect) p.side c.king_after.result =
    rw (c.requires.effect, c.king_after.ensures) (only-king-after p m c.args.king c.requires.sound c.requires.king case) in
    let told : IsTrue c.attacks_left.result ↔ Attacks (board_after p m c.args.effect) (other p.side) c.king_after.result =
    rw (← c.other.ensures.side) (c.attacks_left.ensures (board_after p m c.args.effect) (rw c.other.ensures.side c.after-left.ensures)) in
    safe-told (board_after p m c.args.effect) p.side c.king_after.result c.attacks_left.result king told
