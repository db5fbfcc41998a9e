use Rattle.std.proofs.Common.{◌≡◌, take}
use Rattle.pos_index.proofs.places.anew.Given as goal

-- The games before this one are there.
abbrev pub invariant-loop-i : goal.invariant-loop-i
invariant-loop-i l = l.places ≡ take l.i l.old
