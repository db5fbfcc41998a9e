use Rattle.std.proofs.Common.{take}
use Rattle.report_commands.proofs.classifying.set_codes.Given as goal
use Rattle.report_commands.specs.Ends.{AreCoded}

-- The games before this one have their codes.
abbrev pub invariant-loop-i : goal.invariant-loop-i
invariant-loop-i l = record {
  coded : AreCoded (take l.i l.codes) l.initial.base l.base;
}
