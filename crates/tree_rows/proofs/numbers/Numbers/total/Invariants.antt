use Rattle.std.proofs.Common.{◌≡◌, take}
use Rattle.tree_rows.specs.Numbers.{total_of}
use Rattle.tree_rows.specs.Keeping.{AreWithin}
use Rattle.tree_rows.proofs.numbers.Numbers.total.Given as goal

-- The sums of the rows so far.
abbrev pub invariant-loop-row : goal.invariant-loop-row
invariant-loop-row l = record {
  sums : l.total ≡ total_of (take l.row-index l.rows);
  within : AreWithin l.row-index l.total;
}
