use Rattle.std.proofs.Common.{◌≡◌, ◌≤◌, ◌+◌, length, IsTrue, [], option_map}
use Rattle.base_files.specs.Told.{Tells}
use Rattle.pgn_read.specs.Window.{resumed_at}
use Rattle.pgn_read.specs.Readers.{ahead}
use Rattle.pgn_read.proofs.window.Window.resume.Given as goal

-- What is left leads to the same line.
abbrev pub invariant-lines : goal.invariant-lines
invariant-lines g l = record {
  line : option_map resumed_at (ahead l.fn.self (g.S.Source.left l.fn.source)) ≡ option_map resumed_at (ahead l.self (g.S.Source.left l.source));
  told : IsTrue l.self.ended → Tells (g.S.Source.left l.source) [];
  spends : g.S.Source.budget l.source ≤ g.S.Source.budget l.fn.source;
  faults : g.S.Source.faults l.fn.source ≤ g.S.Source.faults l.source;
  same : g.S.Source.origin l.source ≡ g.S.Source.origin l.fn.source;
}

abbrev pub decreases-lines : goal.decreases-lines
decreases-lines g l = g.S.Source.budget l.source + length l.self.unread
