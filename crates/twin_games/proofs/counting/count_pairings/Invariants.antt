use Rattle.std.proofs.Common.{take}
use Rattle.twin_games.specs.Keys.{AreCounts}
use Rattle.twin_games.proofs.counting.count_pairings.Given as goal

-- The games before this one were counted.
abbrev pub invariant-loop-i : goal.invariant-loop-i
invariant-loop-i g l = AreCounts l.counts (take l.i (g.G.Games.heads l.games))
