use Rattle.std.proofs.Common.{◌≡◌, ◌≤◌, ◌+◌, length, IsTrue, [], false, option_map}
use Rattle.base_files.specs.Told.{Tells}
use Rattle.pgn_read.specs.Window.{gap_behind}
use Rattle.pgn_read.specs.Readers.{ahead}
use Rattle.pgn_read.proofs.window.Window.skip_on.Given as goal

-- What is left of the gap leads to the same place.
abbrev pub invariant-gap : goal.invariant-gap
invariant-gap g l = record {
  gap : option_map (gap_behind false) (ahead l.fn.self (g.S.Source.left l.fn.source)) ≡ option_map (gap_behind l.inside) (ahead l.self (g.S.Source.left l.source));
  told : IsTrue l.self.ended → Tells (g.S.Source.left l.source) [];
  sum : g.S.Source.budget l.source + length l.self.unread ≤ g.S.Source.budget l.fn.source + length l.fn.self.unread;
  spends : g.S.Source.budget l.source ≤ g.S.Source.budget l.fn.source;
  faults : g.S.Source.faults l.fn.source ≤ g.S.Source.faults l.source;
  same : g.S.Source.origin l.source ≡ g.S.Source.origin l.fn.source;
}

abbrev pub decreases-gap : goal.decreases-gap
decreases-gap g l = g.S.Source.budget l.source + length l.self.unread
