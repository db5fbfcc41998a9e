use Rattle.std.proofs.Common.{◌≡◌, ◌++◌, [], ◌∷◌, take}
use Rattle.pos_index.specs.Keeping.{row_in}
use Rattle.pos_index.proofs.places.Places.copy_row.Given as goal

-- The places before this one are put.
abbrev pub invariant-loop-k : goal.invariant-loop-k
invariant-loop-k l = l.self ≡ l.fn.self ++ take l.k (row_in l.others l.i) ∷ []
