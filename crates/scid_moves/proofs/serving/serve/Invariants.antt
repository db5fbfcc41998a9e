use Rattle.std.proofs.Common.{◌≡◌, ◌≤◌, length}
use Rattle.scid_moves.specs.Standing.{Reached}
use Rattle.scid_moves.proofs.serving.serve.Given as goal

-- The lines that were read so far are answered; no fault is forgotten.
abbrev pub invariant-pieces : goal.invariant-pieces
invariant-pieces g l = record {
  reached : Reached (g.S.Source.left l.fn.input) (g.S.Source.left l.input) (g.K.Sink.taken l.fn.out) (g.K.Sink.taken l.out) l.line.items;
  size : length l.piece ≡ 4096;
  reads : g.S.Source.faults l.fn.input ≤ g.S.Source.faults l.input;
  writes : g.K.Sink.faults l.fn.out ≤ g.K.Sink.faults l.out;
}

-- Each piece that is not the last is paid from the budget.
abbrev pub decreases-pieces : goal.decreases-pieces
decreases-pieces g l = g.S.Source.budget l.input
