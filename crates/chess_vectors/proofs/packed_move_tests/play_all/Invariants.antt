use Rattle.std.proofs.Common.{length, ◌-◌, ◌≤◌}
use Rattle.chess_vectors.proofs.packed_move_tests.play_all.Given as goal

-- the moves so far lie within the bytes
abbrev pub invariant-loop-at : goal.invariant-loop-at
invariant-loop-at g l = l.at ≤ length l.bytes

abbrev pub decreases-loop-at : goal.decreases-loop-at
decreases-loop-at g l = length l.bytes - l.at
