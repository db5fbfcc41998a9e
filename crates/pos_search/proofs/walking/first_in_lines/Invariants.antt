use Rattle.std.proofs.Common.{◌≡◌, ◌+◌, ◌-◌, List, length}
use Rattle.game_codec.specs.Record.{IsRecord}
use Rattle.game_tree.specs.Game.{GameTree}
use Rattle.game_tree.specs.declared.head.Tag.{Tag}
use Rattle.pos_search.proofs.AsideLemmas.{IsSearched}
use Rattle.pos_search.proofs.walking.first_in_lines.Given as goal

-- The walk is on these bytes, and in each game of which they are a record no place of the main line was sought, and this is the first of the
-- variations.
abbrev pub invariant-loop-fault : goal.invariant-loop-fault
invariant-loop-fault l = record {
  bytes : l.walk.bytes ≡ l.bytes;
  at : (tags : List Tag) (game : GameTree) → IsRecord l.bytes tags game → IsSearched l.q game l.walk.given l.found;
}

abbrev pub decreases-loop-fault : goal.decreases-loop-fault
decreases-loop-fault l = length l.bytes + 1 - l.walk.given
