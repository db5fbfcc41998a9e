use Rattle.std.proofs.Common.{ℕ, ◌≤◌, List, ◌++◌, length, take, Option}
use Rattle.scid_moves.specs.Standing.{Stands}
use Rattle.scid_moves.proofs.serving.take_piece.Given as goal

-- The bytes so far are taken behind whatever was taken before; no fault is forgotten.
abbrev pub invariant-loop-byte : goal.invariant-loop-byte
invariant-loop-byte g l = record {
  within : l.byte-index ≤ length l.piece;
  stands : (front : List ℕ) (taken : Option (List ℕ)) → Stands front l.fn.line.items taken (g.K.Sink.taken l.fn.out) → Stands (front ++ take l.byte-index l.piece) l.line.items taken (g.K.Sink.taken l.out);
  writes : g.K.Sink.faults l.fn.out ≤ g.K.Sink.faults l.out;
}
