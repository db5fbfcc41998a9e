use Rattle.std.proofs.Common.{◌≡◌, take}
use Rattle.base_core.specs.Uses.{frequencies_of}
use Rattle.base_core.proofs.uses.uses_of.Given as goal

-- The uses of the games so far.
abbrev pub invariant-loop-i : goal.invariant-loop-i
invariant-loop-i l = record { same : l.uses ≡ frequencies_of l.fn.names (take l.i l.fn.entries) }
