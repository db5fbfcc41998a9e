use Rattle.std.proofs.Common.{◌≡◌, ◌+◌, ◌-◌, List, length}
use Rattle.game_codec.specs.Record.{IsRecord}
use Rattle.game_tree.specs.Game.{GameTree}
use Rattle.game_tree.specs.declared.head.Tag.{Tag}
use Rattle.mat_search.specs.Looking.{IsKept}
use Rattle.mat_search.proofs.WalkLemmas.{IsAt}
use Rattle.mat_search.proofs.first_ply.first_ply.Given as goal

-- The walk is on these bytes, and in each game of which they are a record it is at its ply with these streaks behind it; what is
-- kept is so.
abbrev pub invariant-loop-walk : goal.invariant-loop-walk
invariant-loop-walk l = record {
  bytes : l.walk.bytes ≡ l.bytes;
  kept : IsKept l.q l.exchanged l.kept;
  at : (tags : List Tag) (game : GameTree) → IsRecord l.bytes tags game → IsAt l.q game l.walk.ply l.kept.streaks.own l.kept.streaks.other;
}

abbrev pub decreases-loop-walk : goal.decreases-loop-walk
decreases-loop-walk l = length l.bytes + 1 - l.walk.ply
