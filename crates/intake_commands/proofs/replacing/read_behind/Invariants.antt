use Rattle.std.proofs.Common.{◌≡◌, ◌≤◌, IfSome, Some, None}
use Rattle.pgn_read.specs.Readers.{told}
use Rattle.pgn_read.specs.Text.{At}
use Rattle.intake_commands.proofs.replacing.read_behind.Given as goal
use Rattle.intake_commands.specs.Intakes.{IsFitOnly, ReadOn}

-- The items so far are games, and no fault is forgotten.
abbrev pub invariant-loop-number : goal.invariant-loop-number
invariant-loop-number g l = record {
  read : (at : At) → told l.fn.reader (g.B.Source.left l.fn.body) ≡ Some at → ReadOn at (told l.reader (g.B.Source.left l.body)) l.number l.more;
  fit : IfSome l.more IsFitOnly;
  stuck : l.fn.reader.stuck ≡ None → l.reader.stuck ≡ None;
  same : g.B.Source.origin l.body ≡ g.B.Source.origin l.fn.body;
  counts : g.B.Source.faults l.fn.body ≤ g.B.Source.faults l.body;
}
