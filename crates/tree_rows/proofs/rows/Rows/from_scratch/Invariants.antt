use Rattle.std.proofs.Common.{◌≡◌, All, take}
use Rattle.tree_rows.specs.Rows.{IsHit, rows_of}
use Rattle.tree_rows.proofs.rows.Rows.from_scratch.Given as goal

-- The rows of the hits so far.
abbrev pub invariant-loop-hit : goal.invariant-loop-hit
invariant-loop-hit l = record {
  rows : l.rows ≡ rows_of (take l.hit-index l.hits);
  ranges : All IsHit (take l.hit-index l.hits);
}
