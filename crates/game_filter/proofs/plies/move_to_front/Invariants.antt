use Rattle.game_filter.proofs.Renumberings.{Moved}
use Rattle.game_filter.proofs.plies.move_to_front.Given as goal

-- The entries of the games below i that stay are moved to the front.
abbrev pub invariant-loop-i : goal.invariant-loop-i
invariant-loop-i l = Moved l.to l.fn.entries l.entries l.i l.kept
