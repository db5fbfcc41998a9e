use Rattle.std.proofs.Common.{arith, refl, rules, sym, ap, ◌∙◌}
use Rattle.std.proofs.lemmas.List.{length-set}
use Rattle.game_filter.specs.Filter.{count_in}
use Rattle.game_filter.proofs.Counts.{recounted}
use Rattle.game_filter.proofs.filter.Filter.set.Goals as goal

pub overflow_sub-self : goal.overflow_sub-self
overflow_sub-self c =
    (recounted c.self.inside.entries c.args.i c.self.inside.count c.from.result _ c.args.ply (search rules) c.self.invariant.1 (grind arith) refl).0

pub overflow_add-self : goal.overflow_add-self
overflow_add-self c =
    let told = recounted c.self.inside.entries c.args.i c.self.inside.count c.from.result c.from-2.result c.args.ply (search rules)
    c.self.invariant.1 (grind arith) (grind arith) in
    omega (arith, told.1, c.self.invariant.0)

pub invariant_of-self : goal.invariant_of-self
invariant_of-self c =
    let told = recounted c.self.inside.entries c.args.i c.self.inside.count c.from.result c.from-2.result c.args.ply (search rules)
    c.self.invariant.1 (grind arith) (grind arith) in
    (rw (c.set.ensures.changed, length-set c.self.inside.entries c.args.i c.args.ply) c.self.invariant.0, told.2 ∙ ap count_in (sym c.set.ensures.changed))
