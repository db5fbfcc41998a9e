use Rattle.std.proofs.Common.{◌≡◌, ◌≤◌, ◌-◌, length, drop}
use Rattle.base_files.specs.Told.{adds, Grew}
use Rattle.command_runs.proofs.writing.write_from.Given as goal

-- What was taken and what waits are what they were together; nothing is lost, and no fault is forgotten.
abbrev pub invariant-loop-written : goal.invariant-loop-written
invariant-loop-written g l = record {
  kept : adds (g.K.Sink.taken l.out) (drop l.written l.bytes) ≡ adds (g.K.Sink.taken l.fn.out) (drop l.fn.written l.bytes);
  within : l.written ≤ length l.bytes;
  grew : Grew (g.K.Sink.taken l.fn.out) (g.K.Sink.taken l.out);
  counts : g.K.Sink.faults l.fn.out ≤ g.K.Sink.faults l.out;
}

-- Each write takes a byte.
abbrev pub decreases-loop-written : goal.decreases-loop-written
decreases-loop-written g l = length l.bytes - l.written
