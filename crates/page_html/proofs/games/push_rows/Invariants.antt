use Rattle.std.proofs.Common.{◌≡◌, ◌++◌, drop, flat_map}
use Rattle.page_html.specs.Listing.{row_if_there}
use Rattle.page_html.proofs.games.push_rows.Given as goal

-- What is left gives the same as all.
abbrev pub invariant-loop-game : goal.invariant-loop-game
invariant-loop-game g l =
    l.out.items ++ flat_map (row_if_there (g.G.Games.heads l.games)) (drop l.game-index l.listed)
    ≡ l.initial.out.items ++ flat_map (row_if_there (g.G.Games.heads l.games)) l.listed
