use Rattle.std.proofs.Common.{◌≡◌, map, take}
use Rattle.pos_index.specs.Hits.{last_of}
use Rattle.pos_index.proofs.index.lasts_of.Given as goal

-- Those of the games before this one.
abbrev pub invariant-loop-i : goal.invariant-loop-i
invariant-loop-i l = l.lasts.items ≡ map last_of (take l.i l.places)
