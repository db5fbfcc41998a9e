use Rattle.std.proofs.Common.{◌≡◌, length, take}
use Rattle.game_filter.specs.Filter.{count_in}
use Rattle.game_filter.proofs.Passes.{restricted_below}
use Rattle.game_filter.proofs.plies.restrict.Given as goal

-- The games below i are restricted, and those of them that are in are counted.
abbrev pub invariant-loop-i : goal.invariant-loop-i
invariant-loop-i l = record {
  changed : l.entries ≡ restricted_below l.i 0 l.first l.last l.fn.entries;
  counted : l.count ≡ count_in (take l.i l.entries);
  len : length l.entries ≡ length l.fn.entries;
}
