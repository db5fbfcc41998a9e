-- The list has the moves from the squares before this one.
use Rattle.chess_laws.proofs.Words.{◌-◌, ◌*◌, ◌≤◌, ListsBelow}
use Rattle.chess_laws.proofs.moves.list_moves.Given as goal

abbrev pub invariant-loop-from : goal.invariant-loop-from
invariant-loop-from g l = record {
  on_board : l.at ≤ 64;
  listed : ListsBelow l.p g.row.N (512 * l.at) l.into.items;
}

abbrev pub decreases-loop-from : goal.decreases-loop-from
decreases-loop-from g l = 64 - l.at
