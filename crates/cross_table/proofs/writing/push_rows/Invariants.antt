use Rattle.std.proofs.Common.{◌≡◌, ◌++◌, ◌+◌, drop, map}
use Rattle.cross_table.specs.Crosstable.{lines_text}
use Rattle.cross_table.specs.Keeping.{row_line}
use Rattle.cross_table.proofs.writing.push_rows.Given as goal

-- What is left gives the same as all.
abbrev pub invariant-loop-row : goal.invariant-loop-row
invariant-loop-row l = record {
  count : l.above ≡ l.row-index;
  left : l.into.items ++ lines_text (l.above + 1) (map (row_line l.rows) (drop l.row-index l.rows))
      ≡ l.initial.into.items ++ lines_text 1 (map (row_line l.rows) l.rows);
}
