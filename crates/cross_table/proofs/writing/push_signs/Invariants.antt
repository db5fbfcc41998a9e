use Rattle.std.proofs.Common.{◌≡◌, ◌++◌, drop}
use Rattle.cross_table.specs.Keeping.{signs_with}
use Rattle.cross_table.proofs.writing.push_signs.Given as goal

-- What is left gives the same as all.
abbrev pub invariant-loop-m : goal.invariant-loop-m
invariant-loop-m l = l.into.items ++ signs_with l.id (drop l.m-index l.met) ≡ l.initial.into.items ++ signs_with l.id l.met
