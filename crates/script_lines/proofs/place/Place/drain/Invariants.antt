use Rattle.std.proofs.Common.{◌≡◌, ◌≤◌}
use Rattle.script_lines.specs.Standing.{Standing, Start, still_left}
use Rattle.script_lines.proofs.place.Place.drain.Given as goal

-- What is known at the place stays so.
abbrev pub invariant-pieces : goal.invariant-pieces
invariant-pieces g l = record {
  stands : (s : Start) → Standing s l.fn.self (g.S.Source.left l.fn.input) (g.S.Source.budget l.fn.input) (g.S.Source.faults l.fn.input)
      → Standing s l.self (g.S.Source.left l.input) (g.S.Source.budget l.input) (g.S.Source.faults l.input);
  word : l.self.word ≡ l.fn.self.word;
  refused : l.fn.self.refused ≤ l.self.refused;
  same : g.S.Source.origin l.input ≡ g.S.Source.origin l.fn.input;
}

-- Each piece is paid from what may still come.
abbrev pub decreases-pieces : goal.decreases-pieces
decreases-pieces g l = still_left l.self (g.S.Source.budget l.input)
