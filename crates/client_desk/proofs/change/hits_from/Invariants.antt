use Rattle.std.proofs.Common.{◌≡◌, ℕ, ◌+◌, ◌<◌, ◌≤◌, None, length}
use Rattle.tree_live.specs.Slots.{in_slot}
use Rattle.client_desk.proofs.change.hits_from.Given as goal

-- The hits of the slots so far are there, and those of the others are none yet.
abbrev pub invariant-loop-k : goal.invariant-loop-k
invariant-loop-k l = record {
  number : length l.own ≡ 8;
  there : (j : ℕ) → j < l.k → in_slot l.own j ≡ in_slot l.hits (l.first + j);
  left : (j : ℕ) → l.k ≤ j → in_slot l.own j ≡ None;
}
