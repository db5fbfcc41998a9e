use Rattle.std.proofs.Common.{rules}
use Rattle.game_filter.proofs.Renumberings.{rises_stays}
use Rattle.game_filter.proofs.renumbering.Renumbering.keep.Goals as goal

-- The new number is the next one.
pub invariant_of-self-2 : goal.invariant_of-self-2
invariant_of-self-2 c = (search rules, search rules, rw c.in_ok-push.ensures.items (rises_stays 0 c.self.inside.kept c.self.inside.to.items c.self.invariant.2))
