use Rattle.std.proofs.Common.{take}
use Rattle.tree_live.specs.Keeping.{Tells}
use Rattle.tree_live.specs.Views.{ToldMore}
use Rattle.tree_live.proofs.telling.tell.Given as goal

-- The rows of the keys so far are told, each by one change at most.
abbrev pub invariant-loop-key : goal.invariant-loop-key
invariant-loop-key g l = record {
  tells : Tells (take l.key-index l.keys) l.table ((goal.TreeView-dyn g l.fn.view.now).rows l.fn.view.now.1) ((goal.TreeView-dyn g l.view.now).rows l.view.now.1);
  counts : ToldMore l.key-index ((goal.TreeView-dyn g l.fn.view.now).told l.fn.view.now.1) ((goal.TreeView-dyn g l.view.now).told l.view.now.1);
}
