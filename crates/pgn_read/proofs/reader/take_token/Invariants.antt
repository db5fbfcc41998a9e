use Rattle.std.proofs.Common.{◌≡◌, ◌≤◌, ◌+◌, length, IsTrue, []}
use Rattle.base_files.specs.Told.{Tells}
use Rattle.pgn_read.specs.Readers.{ahead}
use Rattle.pgn_read.specs.Window.{waiting}
use Rattle.pgn_read.proofs.reader.take_token.Given as goal

-- What is ahead and what was read of the game stay the same, and each byte is paid from the budget.
abbrev pub invariant-looks : goal.invariant-looks
invariant-looks g l = record {
  kept : ahead l.fn.window (g.S.Source.left l.fn.source) ≡ ahead l.window (g.S.Source.left l.source);
  told : IsTrue l.window.ended → Tells (g.S.Source.left l.source) [];
  game : l.game ≡ l.fn.game;
  sum : g.S.Source.budget l.source + length l.window.unread ≡ g.S.Source.budget l.fn.source + length l.fn.window.unread;
  spends : g.S.Source.budget l.source ≤ g.S.Source.budget l.fn.source;
  faults : g.S.Source.faults l.fn.source ≤ g.S.Source.faults l.source;
  same : g.S.Source.origin l.source ≡ g.S.Source.origin l.fn.source;
}

-- Reading on costs some of the budget, or tells the source's end, which it does once.
abbrev pub decreases-looks : goal.decreases-looks
decreases-looks g l = g.S.Source.budget l.source + waiting l.window
