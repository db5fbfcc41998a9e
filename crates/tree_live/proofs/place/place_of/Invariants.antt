use Rattle.std.proofs.Common.{◌≡◌, ◌+◌, drop}
use Rattle.tree_live.specs.Keeping.{place_of}
use Rattle.tree_live.proofs.place.place_of.Given as goal

-- The rows before, and the place among those that are left.
abbrev pub invariant-loop-row : goal.invariant-loop-row
invariant-loop-row l = record {
  place : l.place ≡ l.row-index;
  left : l.place + place_of l.key (drop l.row-index l.rows) ≡ place_of l.key l.rows;
}
