use Rattle.std.proofs.Common.{◌≤◌, length}
use Rattle.scid_shell.proofs.run.Given as goal

-- There are no more views than slots so far.
abbrev pub invariant-loop-slot : goal.invariant-loop-slot
invariant-loop-slot l = length l.views.items ≤ l._slot
