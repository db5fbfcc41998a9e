use Rattle.std.proofs.Common.{◌≡◌, drop}
use Rattle.tree_rows.specs.Rows.{row_at}
use Rattle.tree_live.proofs.row_changes.find.Given as goal

-- What is left has the first row with the key.
abbrev pub invariant-loop-row : goal.invariant-loop-row
invariant-loop-row l = row_at l.key (drop l.row-index l.rows) ≡ row_at l.key l.rows
