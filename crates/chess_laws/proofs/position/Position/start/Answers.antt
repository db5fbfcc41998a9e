-- The initial position keeps the rules, and nobody is in check: that is computed.
use Rattle.chess_laws.proofs.Words.{refl}
use Rattle.chess_laws.specs.Geometry.{shift}
use Rattle.chess_laws.specs.LegalNow.{attacks_now, in_check_now, leaps_now, runs_now, some_below, walks_now}
use Rattle.chess_laws.proofs.Start.{start-sound}
use Rattle.chess_laws.proofs.position.Position.start.Goals as goal

pub invariant_of-result : goal.invariant_of-result
unfolding in_check_now attacks_now some_below leaps_now walks_now runs_now shift
invariant_of-result c =
    rw (c.start_board-board.ensures) (record { sound = start-sound; white_king = c.king_home.ensures; black_king = c.king_home-2.ensures; check = refl; census = c.start.ensures.counts })
