use Rattle.std.proofs.Common.{◌≡◌, ◌++◌, drop}
use Rattle.tree_live.specs.RowChanges.{keys_anew}
use Rattle.tree_live.proofs.row_changes.note_anew.Given as goal

-- The keys so far, and those of the rows that are left.
abbrev pub invariant-loop-row : goal.invariant-loop-row
invariant-loop-row l = l.keys.items ++ keys_anew l.others (drop l.row-index l.rows) ≡ l.fn.keys.items ++ keys_anew l.others l.rows
