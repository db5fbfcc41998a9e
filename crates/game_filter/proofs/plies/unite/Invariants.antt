use Rattle.std.proofs.Common.{◌≡◌, length, take}
use Rattle.std.specs.Option.{option_or}
use Rattle.game_filter.specs.Filter.{count_in}
use Rattle.game_filter.proofs.Passes.{joined_below}
use Rattle.game_filter.proofs.plies.unite.Given as goal

-- The games below i are joined, and those of them that are in are counted.
abbrev pub invariant-loop-i : goal.invariant-loop-i
invariant-loop-i l = record {
  changed : l.entries ≡ joined_below option_or l.i l.fn.entries l.others;
  counted : l.count ≡ count_in (take l.i l.entries);
  len : length l.entries ≡ length l.fn.entries;
}
