-- The greatest so far and the greatest of what is left give the greatest of all.
use Rattle.std.proofs.Common.{◌≡◌, max, drop}
use Rattle.name_base.specs.NamesText.{greatest_of}
use Rattle.name_base.proofs.writing.greatest_of.Given as goal

abbrev pub invariant-loop-number : goal.invariant-loop-number
invariant-loop-number l = max l.greatest (greatest_of (drop l.number-index l.numbers)) ≡ greatest_of l.numbers
