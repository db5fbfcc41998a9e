use Rattle.std.proofs.Common.{◌≡◌, ◌≤◌, ◌+◌, [], None, length}
use Rattle.script_lines.specs.Bodies.{feed_at}
use Rattle.script_lines.specs.Reading.{TookPart}
use Rattle.script_lines.proofs.reader.LineReader.read_line.Given as goal

-- A part of the line was taken; each byte that was read is counted or unread; no fault is forgotten.
abbrev pub invariant-parts : goal.invariant-parts
invariant-parts g l = record {
  part : TookPart [] l.fn.self (g.S.Source.left l.fn.input) l.self (g.S.Source.left l.input);
  unasked : (feed_at l.fn.self.unread ≡ None → ⊥) → (l.input ≡ l.fn.input) × (l.self.unread ≡ l.fn.self.unread);
  sum : g.S.Source.budget l.input + (l.self.used + length l.self.unread) ≡ g.S.Source.budget l.fn.input + (l.fn.self.used + length l.fn.self.unread);
  falls : g.S.Source.budget l.input ≤ g.S.Source.budget l.fn.input;
  faults : g.S.Source.faults l.fn.input ≤ g.S.Source.faults l.input;
  same : g.S.Source.origin l.input ≡ g.S.Source.origin l.fn.input;
}

-- Each piece is paid from the budget.
abbrev pub decreases-parts : goal.decreases-parts
decreases-parts g l = g.S.Source.budget l.input + length l.self.unread
