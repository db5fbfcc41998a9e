use Rattle.chess_laws.proofs.Words.{White, Black}
use Rattle.chess_laws.proofs.Boards.{first-only}
use Rattle.chess_laws.proofs.position.Position.king.Goals as goal

pub returns-in-White : goal.returns-in-White
returns-in-White c =
    let k = first-only c.self.inside.inner.board White c.self.inside.white_king c.self.invariant.sound.kings c.self.invariant.white_king in
    rw (c.in-White.is, ← c.self.view_is) (record { stands = k.stands; only = k.only })

pub returns-in-Black : goal.returns-in-Black
returns-in-Black c =
    let k = first-only c.self.inside.inner.board Black c.self.inside.black_king c.self.invariant.sound.kings c.self.invariant.black_king in
    rw (c.in-Black.is, ← c.self.view_is) (record { stands = k.stands; only = k.only })
