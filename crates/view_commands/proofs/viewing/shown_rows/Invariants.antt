use Rattle.std.proofs.Common.{◌≡◌, All, take}
use Rattle.tree_rows.specs.MoveText.{IsKey}
use Rattle.tree_rows.specs.declared.row.Row.{Row}
use Rattle.view_commands.proofs.viewing.shown_rows.Given as goal

-- The rows so far are keys, and all of them are there where those of the view are.
abbrev pub invariant-loop-i : goal.invariant-loop-i
invariant-loop-i g l = record {
  keys : All (λ (row : Row). IsKey l.board l.side row.key) l.shown.items;
  rows : All (λ (row : Row). IsKey l.board l.side row.key) ((goal.TreeView-dyn g l.view.now).rows l.view.now.1)
      → l.shown.items ≡ take l.i ((goal.TreeView-dyn g l.view.now).rows l.view.now.1);
}
