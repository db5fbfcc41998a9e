use Rattle.std.proofs.Common.{◌≡◌, drop}
use Rattle.pgn_read.specs.Bytes.{begins}
use Rattle.pgn_read.proofs.run.begins.Given as goal

-- What is left of the form decides.
abbrev pub invariant-loop-first : goal.invariant-loop-first
invariant-loop-first l = begins (drop l.first-index l.form) l.rest ≡ begins l.fn.form l.fn.bytes
