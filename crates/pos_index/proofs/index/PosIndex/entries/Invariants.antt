use Rattle.std.proofs.Common.{◌≡◌, length, sum_by, take}
use Rattle.pos_index.proofs.index.PosIndex.entries.Given as goal

-- The places of the games below i.
abbrev pub invariant-loop-i : goal.invariant-loop-i
invariant-loop-i l = l.entries ≡ sum_by length (take l.i l.self.rows)
