use Rattle.std.proofs.Common.{◌≡◌, drop, length}
use Rattle.base_files.specs.Swaps.{swapped}
use Rattle.base_files.proofs.swap.put_swaps.Given as goal

-- The bytes that are left to put make the same games file as all, and it keeps its length.
abbrev pub invariant-loop-swap : goal.invariant-loop-swap
invariant-loop-swap l = record {
  put : swapped l.call (drop l.swap-index l.swaps) l.games ≡ swapped l.call l.swaps l.fn.games;
  len : length l.games ≡ length l.fn.games;
}
