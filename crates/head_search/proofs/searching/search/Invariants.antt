use Rattle.std.proofs.Common.{◌≡◌, length, take}
use Rattle.game_filter.specs.Search.{searched}
use Rattle.head_search.specs.Matching.{firsts_of}
use Rattle.head_search.proofs.searching.search.Given as goal

-- The games before this one were searched, and each game has an entry still.
abbrev pub invariant-loop-i : goal.invariant-loop-i
invariant-loop-i g l = record {
  done : l.filter ≡ searched l.op (take l.i (firsts_of l.q (g.G.Games.heads l.games) (g.G.Games.sigs l.games))) l.fn.filter;
  games : length l.filter ≡ length (g.G.Games.sigs l.games);
}
