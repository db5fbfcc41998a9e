-- The tables are compared with the definition for any two squares, by computing.
use Rattle.chess_laws.proofs.Words.{refl, White, Black, pawn_captures}
use Rattle.chess_laws.specs.Geometry.{shift}
use Rattle.chess_laws.specs.Leaps.{names_leaps}
use Rattle.chess_laws.specs.LegalNow.{leaps_now}
use Rattle.chess_laws.proofs.leaps.capture_squares.Goals as goal

pub returns-in-White-clause-leaps : goal.returns-in-White-clause-leaps
unfolding shift leaps_now names_leaps
returns-in-White-clause-leaps c = rw c.in-White.is (c.squares_in.ensures.leaps (pawn_captures White) refl)

pub returns-in-Black-clause-leaps : goal.returns-in-Black-clause-leaps
unfolding shift leaps_now names_leaps
returns-in-Black-clause-leaps c = rw c.in-Black.is (c.squares_in-in-Black.ensures.leaps (pawn_captures Black) refl)
