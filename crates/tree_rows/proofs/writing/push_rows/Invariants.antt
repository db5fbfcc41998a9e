use Rattle.std.proofs.Common.{◌≡◌, ◌++◌, drop, flat_map}
use Rattle.tree_rows.specs.TreeText.{row_line}
use Rattle.tree_rows.proofs.writing.push_rows.Given as goal

-- What is left gives the same as all.
abbrev pub invariant-loop-row : goal.invariant-loop-row
invariant-loop-row l = l.into.items ++ flat_map (row_line l.board l.side) (drop l.row-index l.rows) ≡ l.initial.into.items ++ flat_map (row_line l.board l.side) l.rows
