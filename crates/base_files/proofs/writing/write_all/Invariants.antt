use Rattle.std.proofs.Common.{◌≡◌, ◌≤◌, length}
use Rattle.base_files.specs.Told.{adds, Grew}
use Rattle.base_files.proofs.writing.write_all.Given as goal

-- What was taken and the rest make the whole; nothing is lost; no fault is forgotten.
abbrev pub invariant-loop-rest : goal.invariant-loop-rest
invariant-loop-rest g l = record {
  whole : adds (g.S.Sink.taken l.sink) l.rest ≡ adds (g.S.Sink.taken l.fn.sink) l.bytes;
  grew : Grew (g.S.Sink.taken l.fn.sink) (g.S.Sink.taken l.sink);
  faults : g.S.Sink.faults l.fn.sink ≤ g.S.Sink.faults l.sink;
}

-- Each write takes a byte.
abbrev pub decreases-loop-rest : goal.decreases-loop-rest
decreases-loop-rest g l = length l.rest
