use Rattle.std.proofs.Common.{◌≡◌, ◌≤◌, ◌+◌, ◌-◌, length, drop}
use Rattle.command_runs.specs.Lines.{line_size}
use Rattle.command_runs.proofs.line.line_size.Given as goal

-- The first line has the bytes so far and those that it has of the rest.
abbrev pub invariant-loop-size : goal.invariant-loop-size
invariant-loop-size l = record {
  within : l.size ≤ length l.piece;
  rest : line_size l.piece ≡ l.size + line_size (drop l.size l.piece);
}

abbrev pub decreases-loop-size : goal.decreases-loop-size
decreases-loop-size l = length l.piece - l.size
