use Rattle.std.proofs.Common.{◌≡◌, ◌++◌, drop}
use Rattle.cross_table.specs.Keeping.{row_cells}
use Rattle.cross_table.proofs.writing.push_cells.Given as goal

-- What is left gives the same as all.
abbrev pub invariant-loop-column : goal.invariant-loop-column
invariant-loop-column l = l.into.items ++ row_cells l.row (drop l.column-index l.rows) ≡ l.initial.into.items ++ row_cells l.row l.rows
