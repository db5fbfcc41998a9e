use Rattle.std.proofs.Common.{◌≡◌, ◌≤◌, ◌++◌, flat_map, length, take}
use Rattle.scid_moves.specs.Answers.{move_line}
use Rattle.scid_moves.proofs.answer.push_moves.Given as goal

-- The lines of the moves so far were added.
abbrev pub invariant-loop-m : goal.invariant-loop-m
invariant-loop-m l = record {
  within : l.m-index ≤ length l.moves;
  lines : l.text.items ≡ l.fn.text.items ++ flat_map (move_line l.position) (take l.m-index l.moves);
}
