use Rattle.std.proofs.Common.{◌≡◌}
use Rattle.game_tree.specs.Replay.{position_at}
use Rattle.pos_index.specs.Keeping.{row_in}
use Rattle.pos_index.proofs.GameLemmas.{Common}
use Rattle.pos_index.proofs.placing.common.Given as goal

-- The places before this ply are alike, and the position is that of the game.
abbrev pub invariant-loop-ply : goal.invariant-loop-ply
invariant-loop-ply l = record {
  so : Common (row_in l.places l.i) l.game l.ply;
  at : l.position ≡ position_at l.game l.ply;
}
