use Rattle.game_filter.proofs.Renumberings.{Moved}
use Rattle.game_filter.proofs.renumbering.move_to_front.Given as goal

-- What is listed of the games below i that stay is moved to the front.
abbrev pub invariant-loop-i : goal.invariant-loop-i
invariant-loop-i g l = Moved l.to l.fn.list l.list l.i l.kept
