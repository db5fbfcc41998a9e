use Rattle.std.proofs.Common.{◌≡◌, ◌≤◌, ◌+◌, List, drop, take}
use Rattle.game_codec.specs.Record.{IsRecord}
use Rattle.game_tree.specs.Game.{GameTree}
use Rattle.game_tree.specs.Replay.{plies_of}
use Rattle.game_tree.specs.declared.head.Tag.{Tag}
use Rattle.book_pages.specs.Meeting.{AreCounts, Reaches}
use Rattle.book_pages.specs.Reached.{boards_of}
use Rattle.book_pages.proofs.finding.meet_on.Given as goal

-- The walk is on the same bytes, and the game was counted on the boards up to here.
abbrev pub invariant-loop-ply : goal.invariant-loop-ply
invariant-loop-ply l = record {
  bytes : l.walk.bytes ≡ l.fn.walk.bytes;
  kept : AreCounts (l.i + 1) l.counts.boards.keys l.counts.met.items;
  at : (tags : List Tag) (tree : GameTree) → IsRecord l.fn.walk.bytes tags tree → l.walk.ply ≡ l.fn.walk.ply + l._ply;
  within : (tags : List Tag) (tree : GameTree) → IsRecord l.fn.walk.bytes tags tree → l.walk.ply ≤ plies_of tree;
  met : (tags : List Tag) (tree : GameTree) → IsRecord l.fn.walk.bytes tags tree
      → Reaches l.i (take (l._ply + 1) (drop l.fn.walk.ply (boards_of tree))) l.fn.counts.boards.keys l.fn.counts.met.items l.counts.boards.keys l.counts.met.items;
}
