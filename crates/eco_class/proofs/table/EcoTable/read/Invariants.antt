use Rattle.std.proofs.Common.{◌≡◌, ◌+◌, ◌≤◌, length}
use Rattle.eco_class.specs.Cutting.{lines_of}
use Rattle.eco_class.specs.Reading.{table_of, with_lines}
use Rattle.eco_class.proofs.table.EcoTable.read.Given as goal

-- The lines that are left make of the table so far what all lines make of none; and there are no more lines than bytes.
abbrev pub invariant-loop-line : goal.invariant-loop-line
invariant-loop-line l = record {
  table : with_lines l.table (l.number + 1) (lines_of l.rest) ≡ table_of l.fn.text;
  few : l.number + length l.rest ≤ length l.fn.text;
}

abbrev pub decreases-loop-line : goal.decreases-loop-line
decreases-loop-line l = length l.rest
