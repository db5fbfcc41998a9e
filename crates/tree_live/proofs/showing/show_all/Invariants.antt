use Rattle.tree_live.specs.Showing.{ShownBelow}
use Rattle.tree_live.proofs.showing.show_all.Given as goal

-- The views of the slots so far are told.
abbrev pub invariant-loop-k : goal.invariant-loop-k
invariant-loop-k g l =
    ShownBelow (λ b. (goal.TreeView-dyn g (b.vtable, b.value)).rows b.value) (λ b. (goal.TreeView-dyn g (b.vtable, b.value)).told b.value)
    l.first l.k l.watches l.fn.views l.views
