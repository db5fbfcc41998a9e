use Rattle.std.proofs.Common.{rules}
use Rattle.game_filter.proofs.Renumberings.{rises_goes}
use Rattle.game_filter.proofs.renumbering.Renumbering.remove.Goals as goal

-- The numbers stay as they are.
pub invariant_of-self-2 : goal.invariant_of-self-2
invariant_of-self-2 c = (search rules, search rules, rw c.in_ok-push.ensures.items (rises_goes 0 c.self.inside.kept c.self.inside.to.items c.self.invariant.2))
