use Rattle.std.proofs.Common.{◌≡◌}
use Rattle.game_tree.specs.Replay.{position_at}
use Rattle.pos_index.proofs.GameLemmas.{SoFrom}
use Rattle.pos_index.proofs.placing.try_game.Given as goal

-- The places before this ply are put, but for the first ones, and the position is that of the game.
abbrev pub invariant-loop-ply : goal.invariant-loop-ply
invariant-loop-ply l = record {
  so : SoFrom l.game l.from l.fn.places l.i l.ply l.places;
  at : l.position ≡ position_at l.game l.ply;
}
