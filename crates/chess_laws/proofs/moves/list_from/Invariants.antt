-- The list has the moves to the squares before this one.
use Rattle.chess_laws.proofs.Words.{◌+◌, ◌-◌, ◌*◌, ◌≤◌, ListsBelow}
use Rattle.chess_laws.proofs.moves.list_from.Given as goal

abbrev pub invariant-loop-to : goal.invariant-loop-to
invariant-loop-to g l = record {
  on_board : l.at ≤ 64;
  listed : ListsBelow l.p g.row.N (512 * l.from + 8 * l.at) l.into.items;
}

abbrev pub decreases-loop-to : goal.decreases-loop-to
decreases-loop-to g l = 64 - l.at
