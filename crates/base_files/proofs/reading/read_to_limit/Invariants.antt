use Rattle.std.proofs.Common.{◌≡◌, ◌≤◌, ◌+◌, vec_len, length}
use Rattle.base_files.specs.Told.{before}
use Rattle.base_files.proofs.reading.read_to_limit.Given as goal

-- What was read and what is left make the whole, within the limit and paid from the budget; no fault is forgotten.
abbrev pub invariant-pieces : goal.invariant-pieces
invariant-pieces g l = record {
  whole : g.S.Source.left l.fn.source ≡ before l.bytes.items (g.S.Source.left l.source);
  paid : g.S.Source.budget l.source + vec_len l.bytes ≡ g.S.Source.budget l.fn.source;
  within : vec_len l.bytes ≤ l.limit;
  size : length l.piece ≡ 4096;
  faults : g.S.Source.faults l.fn.source ≤ g.S.Source.faults l.source;
}

-- Each piece that is not the last is paid from the budget.
abbrev pub decreases-pieces : goal.decreases-pieces
decreases-pieces g l = g.S.Source.budget l.source
