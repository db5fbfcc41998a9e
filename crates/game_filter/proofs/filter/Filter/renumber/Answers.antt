use Rattle.std.proofs.Common.{◌^◌}
use Rattle.game_filter.proofs.Renumberings.{fewer-renumbered}
use Rattle.game_filter.proofs.filter.Filter.renumber.Goals as goal

pub invariant_of-self : goal.invariant_of-self
invariant_of-self c =
    let done = c.renumber-self-inside in
    (fewer-renumbered c.args.renumbering.now.to c.self.inside.entries done.new.entries (2 ^ 32) done.ensures.moved c.self.invariant.0, done.ensures.count)
