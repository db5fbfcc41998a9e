use Rattle.std.proofs.Common.{◌≡◌, ◌-◌, Err}
use Rattle.mend_base.specs.Fronts.{saved_in, steps_of}
use Rattle.mend_base.proofs.fronts.save.Given as goal

-- What is saved of what is left is what is saved of the whole.
abbrev pub invariant-loop-step : goal.invariant-loop-step
invariant-loop-step l = saved_in (steps_of l.fn.faulty - l._step) l.rest.items (Err l.first) ≡ saved_in (steps_of l.fn.faulty) l.fn.bytes (Err l.fn.fault)
