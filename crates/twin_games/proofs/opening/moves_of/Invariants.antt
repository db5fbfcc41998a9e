use Rattle.std.proofs.Common.{◌≡◌, ◌≤◌, ◌-◌, List}
use Rattle.game_codec.specs.Record.{IsRecord}
use Rattle.game_tree.specs.Game.{GameTree}
use Rattle.game_tree.specs.declared.head.Tag.{Tag}
use Rattle.twin_games.specs.Twins.{first_moves}
use Rattle.twin_games.proofs.opening.moves_of.Given as goal

-- The moves so far are the first of each game of which the bytes are a record.
abbrev pub invariant-steps : goal.invariant-steps
invariant-steps l = record {
  bytes : l.walk.bytes ≡ l.fn.walk.bytes;
  within : l.walk.ply ≤ l.depth;
  moves : (tags : List Tag) (game : GameTree) → IsRecord l.fn.walk.bytes tags game → l.moves.items ≡ first_moves l.walk.ply game;
}

abbrev pub decreases-steps : goal.decreases-steps
decreases-steps l = l.depth - l.walk.ply
