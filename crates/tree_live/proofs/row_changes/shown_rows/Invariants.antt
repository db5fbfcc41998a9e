use Rattle.std.proofs.Common.{◌≡◌, ◌++◌, take, drop}
use Rattle.tree_live.specs.RowChanges.{keys_alone}
use Rattle.tree_live.proofs.row_changes.shown_rows.Given as goal

-- The rows so far, and the keys of those so far with those of the rows that are left.
abbrev pub invariant-loop-i : goal.invariant-loop-i
invariant-loop-i g l = record {
  rows : l.shown.items ≡ take l.i ((goal.TreeView-dyn g l.view.now).rows l.view.now.1);
  keys : l.keys.items ++ keys_alone l.table (drop l.i ((goal.TreeView-dyn g l.view.now).rows l.view.now.1))
      ≡ l.fn.keys.items ++ keys_alone l.table ((goal.TreeView-dyn g l.view.now).rows l.view.now.1);
}
