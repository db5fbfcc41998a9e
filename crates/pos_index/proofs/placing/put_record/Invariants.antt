use Rattle.std.proofs.Common.{◌≡◌, List}
use Rattle.game_codec.specs.Record.{IsRecord}
use Rattle.game_tree.specs.Game.{GameTree}
use Rattle.game_tree.specs.declared.head.Tag.{Tag}
use Rattle.pos_index.specs.Keeping.{HasPutAtMost}
use Rattle.pos_index.proofs.GameLemmas.{SoFar}
use Rattle.pos_index.proofs.placing.put_record.Given as goal

-- The places before this ply are put, of each game of which the bytes are a record.
abbrev pub invariant-loop-ply : goal.invariant-loop-ply
invariant-loop-ply l = record {
  so : (tags : List Tag) (game : GameTree) → IsRecord l.bytes tags game → SoFar game l.fn.places l.i l.ply l.places;
  most : HasPutAtMost l.ply l.fn.places l.i l.places;
  bytes : l.walk.bytes ≡ l.bytes;
  ply : l.walk.ply ≡ l.ply;
}
