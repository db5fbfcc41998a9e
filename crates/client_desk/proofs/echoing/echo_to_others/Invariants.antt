use Rattle.client_desk.specs.Echoing.{Echoing}
use Rattle.client_desk.proofs.echoing.echo_to_others.Given as goal

-- The change was brought to the seats so far.
abbrev pub invariant-loop-c : goal.invariant-loop-c
invariant-loop-c g l =
    Echoing (λ b. (goal.TreeView-dyn g (b.vtable, b.value)).rows b.value) (λ b. (goal.TreeView-dyn g (b.vtable, b.value)).told b.value)
    l.by l.change l.c l.fn.seats l.seats l.fn.views l.views
