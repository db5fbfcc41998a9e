use Rattle.std.proofs.Common.{◌≤◌}
use Rattle.pos_index.proofs.lists.Lists.met.Given as goal

-- There are no more than were looked at.
abbrev pub invariant-loop-hits : goal.invariant-loop-hits
invariant-loop-hits l = l.met ≤ l.hits-index
