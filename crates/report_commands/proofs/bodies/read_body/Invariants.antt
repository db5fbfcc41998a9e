use Rattle.std.proofs.Common.{◌≡◌, ◌≤◌, vec_len, length}
use Rattle.base_files.specs.Told.{before}
use Rattle.report_commands.proofs.bodies.read_body.Given as goal

-- What was read and what is left make the whole, which is paid from the budget; no fault is forgotten.
abbrev pub invariant-pieces : goal.invariant-pieces
invariant-pieces g l = record {
  whole : g.B.Source.left l.fn.body ≡ before l.bytes.items (g.B.Source.left l.body);
  few : vec_len l.bytes ≤ 4294967295;
  size : length l.piece ≡ 4096;
  same : g.B.Source.origin l.body ≡ g.B.Source.origin l.fn.body;
  counts : g.B.Source.faults l.fn.body ≤ g.B.Source.faults l.body;
}

-- Each piece that is not the last is paid from the budget.
abbrev pub decreases-pieces : goal.decreases-pieces
decreases-pieces g l = g.B.Source.budget l.body
