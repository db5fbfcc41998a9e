use Rattle.std.proofs.Common.{◌≡◌, ◌≤◌, ◌+◌, ◌-◌, List, length}
use Rattle.game_codec.specs.Record.{IsRecord}
use Rattle.game_tree.specs.Game.{GameTree}
use Rattle.game_tree.specs.Replay.{plies_of}
use Rattle.game_tree.specs.declared.head.Tag.{Tag}
use Rattle.book_pages.specs.Keeping.{AreMet, AreTallies}
use Rattle.book_pages.proofs.counting.count_record.Given as goal

-- The walk is on these bytes, and each game of which they are a record was counted by its positions before the one that was reached.
abbrev pub invariant-loop-course : goal.invariant-loop-course
invariant-loop-course l = record {
  bytes : l.walk.bytes ≡ l.bytes;
  within : (tags : List Tag) (tree : GameTree) → IsRecord l.bytes tags tree → l.walk.ply ≤ plies_of tree;
  kept : AreTallies l.boards.keys (l.game.number + 1) l.tallies;
  met : (tags : List Tag) (tree : GameTree) → IsRecord l.bytes tags tree → AreMet l.boards.keys l.game tree l.walk.ply l.fn.tallies l.tallies;
}

abbrev pub decreases-loop-course : goal.decreases-loop-course
decreases-loop-course l = length l.bytes + 1 - l.walk.ply
