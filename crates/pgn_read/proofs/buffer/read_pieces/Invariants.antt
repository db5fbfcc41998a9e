use Rattle.std.proofs.Common.{◌≡◌, ◌≤◌, ◌+◌, length, take, drop, max}
use Rattle.base_files.specs.Told.{before}
use Rattle.pgn_read.proofs.buffer.read_pieces.Given as goal

-- The first bytes stay, and those behind them came from the source, each paid from the budget.
abbrev pub invariant-reads : goal.invariant-reads
invariant-reads g l = record {
  front : take l.kept l.bytes ≡ take l.kept l.fn.bytes;
  size : length l.bytes ≡ length l.fn.bytes;
  within : l.to ≤ length l.bytes;
  few : l.to ≤ max l.kept (l.wanted + 4096);
  more : l.kept ≤ l.to;
  given : g.S.Source.left l.fn.source ≡ before (drop l.kept (take l.to l.bytes)) (g.S.Source.left l.source);
  sum : g.S.Source.budget l.source + l.to ≡ g.S.Source.budget l.fn.source + l.kept;
  spends : g.S.Source.budget l.source ≤ g.S.Source.budget l.fn.source;
  faults : g.S.Source.faults l.fn.source ≤ g.S.Source.faults l.source;
  same : g.S.Source.origin l.source ≡ g.S.Source.origin l.fn.source;
}

abbrev pub decreases-reads : goal.decreases-reads
decreases-reads g l = g.S.Source.budget l.source
