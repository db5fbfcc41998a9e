use Rattle.std.proofs.Common.{◌≡◌, take}
use Rattle.game_filter.specs.Filter.{count_in}
use Rattle.game_filter.proofs.plies.count.Given as goal

-- The games so far that are in are counted.
abbrev pub invariant-loop-i : goal.invariant-loop-i
invariant-loop-i l = l.count ≡ count_in (take l.i l.entries)
