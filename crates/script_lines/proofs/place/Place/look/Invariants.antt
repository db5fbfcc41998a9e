use Rattle.std.proofs.Common.{◌≡◌, ◌≤◌, ◌+◌, length}
use Rattle.base_files.specs.Told.{before}
use Rattle.script_lines.proofs.place.Place.look.Given as goal

-- Only more was read: what is ahead stays the same, and each byte is paid from the budget.
abbrev pub invariant-looks : goal.invariant-looks
invariant-looks g l = record {
  kept : before l.self.reader.unread (g.S.Source.left l.input) ≡ before l.fn.self.reader.unread (g.S.Source.left l.fn.input);
  rest : l.self ≡ record l.fn.self { reader = l.self.reader };
  tagged : l.self.reader.tagged ≡ l.fn.self.reader.tagged;
  used : l.self.reader.used ≡ l.fn.self.reader.used;
  sum : g.S.Source.budget l.input + length l.self.reader.unread ≡ g.S.Source.budget l.fn.input + length l.fn.self.reader.unread;
  falls : g.S.Source.budget l.input ≤ g.S.Source.budget l.fn.input;
  faults : g.S.Source.faults l.fn.input ≤ g.S.Source.faults l.input;
  same : g.S.Source.origin l.input ≡ g.S.Source.origin l.fn.input;
}

abbrev pub decreases-looks : goal.decreases-looks
decreases-looks g l = g.S.Source.budget l.input
