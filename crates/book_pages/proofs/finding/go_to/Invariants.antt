use Rattle.std.proofs.Common.{◌≡◌, ◌+◌, ◌-◌, List, length}
use Rattle.game_codec.specs.Record.{IsRecord}
use Rattle.game_tree.specs.Game.{GameTree}
use Rattle.game_tree.specs.declared.head.Tag.{Tag}
use Rattle.book_pages.proofs.ReachLemmas.{IsMissed}
use Rattle.book_pages.proofs.finding.go_to.Given as goal

-- The walk is on the same bytes, and the start did not come yet.
abbrev pub invariant-loop-walk : goal.invariant-loop-walk
invariant-loop-walk l = record {
  bytes : l.walk.bytes ≡ l.fn.walk.bytes;
  missed : (tags : List Tag) (tree : GameTree) → IsRecord l.fn.walk.bytes tags tree → IsMissed l.start tree l.walk.ply;
}

abbrev pub decreases-loop-walk : goal.decreases-loop-walk
decreases-loop-walk l = length l.fn.walk.bytes + 1 - l.walk.ply
