use Rattle.session_vectors.specs.Ready.{IsReady}
use Rattle.session_vectors.proofs.change_tests.change_by_each.Given as goal

-- The desk is ready between two clients.
abbrev pub invariant-loop-client : goal.invariant-loop-client
invariant-loop-client g l = IsReady (λ b. (goal.TreeView-dyn g (b.vtable, b.value)).rows b.value) l.desk l.views 2

abbrev pub invariant-loop-client-2 : goal.invariant-loop-client-2
invariant-loop-client-2 g l = IsReady (λ b. (goal.TreeView-dyn g (b.vtable, b.value)).rows b.value) l.desk l.views 2
