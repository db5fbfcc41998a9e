use Rattle.std.proofs.Common.{◌≡◌, ◌≤◌, take}
use Rattle.pos_index.specs.Keeping.{times}
use Rattle.pos_index.proofs.lists.times.Given as goal

-- How often the board stands among those so far.
abbrev pub invariant-loop-k : goal.invariant-loop-k
invariant-loop-k l = record {
  times : l.found ≡ times l.board (take l.k l.boards);
  few : l.found ≤ l.k;
}
