use Rattle.std.proofs.Common.{◌≡◌, ◌+◌, ◌-◌, ◌<◌, ◌≤◌, List, length}
use Rattle.std.specs.Prelude.{All}
use Rattle.game_codec.specs.Record.{IsRecord}
use Rattle.game_tree.specs.Game.{GameTree}
use Rattle.game_tree.specs.declared.head.Tag.{Tag}
use Rattle.sig_index.specs.Leaving.{AreHome}
use Rattle.sig_index.proofs.SignedLemmas.{Leaves}
use Rattle.sig_index.proofs.record_sig.left_along.Given as goal

-- What left so far and what leaves behind it is what leaves in the game, and those that are still looked for are at home.
abbrev pub invariant-moves : goal.invariant-moves
invariant-moves l = record {
  bytes : l.reading.bytes ≡ l.fn.reading.bytes;
  values : All (λ v. v < 16) l.still;
  room : length l.still + length l.left.items ≤ 16;
  leaves : (tags : List Tag) (game : GameTree) → IsRecord l.fn.reading.bytes tags game → Leaves l.own_start game l.reading.ply l.still l.left.items;
  home : AreHome l.reading.position l.still;
}

abbrev pub decreases-moves : goal.decreases-moves
decreases-moves l = length l.fn.reading.bytes - l.reading.ply
