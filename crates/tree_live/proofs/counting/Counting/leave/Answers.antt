use Rattle.std.proofs.Common.{◌<◌, ◌∙◌, List, length, sym, ap, subst}
use Rattle.tree_live.specs.declared.entry.Entry.{Entry}
use Rattle.tree_live.specs.Watching.{counted}
use Rattle.tree_live.specs.Keeping.{entry_at}
use Rattle.tree_live.proofs.HitLaws.{leaves-hit, leaves-sums}
use Rattle.tree_live.proofs.counting.Counting.leave.Goals as goal

pub drop_hit-requires : goal.drop_hit-requires
drop_hit-requires c =
    let is = c.self.view_is in
    record {
      counted = leaves-hit c.self.inside.games.items c.args.i c.args.hit.now c.self.inside.table
          (subst (λ (games : List Entry). c.args.i < length games) (sym is) c.requires.game)
          (ap (λ (games : List Entry). counted (entry_at games c.args.i)) is ∙ c.requires.counted) c.self.invariant.1;
    }

pub invariant_of-self : goal.invariant_of-self
invariant_of-self c =
    let is = c.self.view_is in (
      c.self.invariant.0,
      leaves-sums c.self.inside.games.items c.args.i c.args.hit.now c.self.inside.table c.drop_hit.new.self
          (subst (λ (games : List Entry). c.args.i < length games) (sym is) c.requires.game)
          (ap (λ (games : List Entry). counted (entry_at games c.args.i)) is ∙ c.requires.counted) c.self.invariant.1 c.drop_hit.ensures.rows,
    )
