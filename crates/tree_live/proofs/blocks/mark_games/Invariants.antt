use Rattle.std.proofs.Common.{List, ◌≡◌, length}
use Rattle.tree_live.specs.declared.entry.Entry.{Entry}
use Rattle.tree_live.specs.Keeping.{partly}
use Rattle.tree_live.proofs.blocks.mark_games.Given as goal

-- The games so far are in or out by the filter, of whichever games those below the first are.
abbrev pub invariant-loop-i : goal.invariant-loop-i
invariant-loop-i l =
    (length l.games ≡ length l.filter)
    × ((before : List Entry) → length l.filter ≡ length before → l.fn.games ≡ partly l.first l.filter before → l.games ≡ partly l.i l.filter before)
