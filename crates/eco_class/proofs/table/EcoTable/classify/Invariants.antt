use Rattle.std.proofs.Common.{◌≡◌, ◌+◌, ◌-◌, ◌≤◌, List, length}
use Rattle.std.specs.Prelude.{IfSome}
use Rattle.game_codec.specs.Record.{IsRecord}
use Rattle.game_tree.specs.Game.{GameTree}
use Rattle.game_tree.specs.Replay.{plies_of}
use Rattle.game_tree.specs.declared.head.Tag.{Tag}
use Rattle.eco_class.specs.Table.{last_code}
use Rattle.eco_class.proofs.table.EcoTable.classify.Given as goal

-- The walk is on these bytes, and in each game of which they are a record the code is that of the positions before the one that was reached.
abbrev pub invariant-loop-walk : goal.invariant-loop-walk
invariant-loop-walk l = record {
  bytes : l.walk.bytes ≡ l.bytes;
  within : (tags : List Tag) (game : GameTree) → IsRecord l.bytes tags game → l.walk.ply ≤ plies_of game;
  code : (tags : List Tag) (game : GameTree) → IsRecord l.bytes tags game → l.code ≡ last_code l.self game l.walk.ply;
  bounds : IfSome l.code (λ code. (1 ≤ code) × (code ≤ 65500));
}

abbrev pub decreases-loop-walk : goal.decreases-loop-walk
decreases-loop-walk l = length l.bytes + 1 - l.walk.ply
