use Rattle.std.proofs.Common.{◌≡◌, ◌+◌, ◌-◌, List, length}
use Rattle.game_codec.specs.Record.{IsRecord}
use Rattle.game_tree.specs.Game.{GameTree}
use Rattle.game_tree.specs.declared.head.Tag.{Tag}
use Rattle.pos_search.specs.Sought.{IsTold}
use Rattle.pos_search.proofs.WalkLemmas.{IsAt}
use Rattle.pos_search.proofs.walking.walk_to.Given as goal

-- The walk is on these bytes, and in each game of which they are a record no ply before its own matches; what is
-- kept of counts is so.
abbrev pub invariant-loop-coming : goal.invariant-loop-coming
invariant-loop-coming l = record {
  bytes : l.walk.bytes ≡ l.fn.walk.bytes;
  told : IsTold l.q l.coming;
  at : (tags : List Tag) (game : GameTree) → IsRecord l.fn.walk.bytes tags game → IsAt l.q game l.walk.ply;
}

abbrev pub decreases-loop-coming : goal.decreases-loop-coming
decreases-loop-coming l = length l.fn.walk.bytes + 1 - l.walk.ply
