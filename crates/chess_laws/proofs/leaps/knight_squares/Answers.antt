-- The table is compared with the definition for any two squares, by computing.
use Rattle.chess_laws.proofs.Words.{refl, knight_steps}
use Rattle.chess_laws.specs.Geometry.{shift}
use Rattle.chess_laws.specs.Leaps.{names_leaps}
use Rattle.chess_laws.specs.LegalNow.{leaps_now}
use Rattle.chess_laws.proofs.leaps.knight_squares.Goals as goal

pub returns-clause-leaps : goal.returns-clause-leaps
unfolding shift leaps_now names_leaps
returns-clause-leaps c = c.squares_in.ensures.leaps knight_steps refl
