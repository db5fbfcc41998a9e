use Rattle.std.proofs.Common.{◌<◌, ◌∙◌, List, length, sym, ap, subst}
use Rattle.tree_live.specs.declared.entry.Entry.{Entry}
use Rattle.tree_live.specs.Watching.{counted}
use Rattle.tree_live.specs.Keeping.{entry_at}
use Rattle.tree_live.proofs.HitLaws.{same-sums}
use Rattle.tree_live.proofs.counting.Counting.put.Goals as goal

pub invariant_of-self : goal.invariant_of-self
invariant_of-self c =
    let is = c.self.view_is in (
      c.self.invariant.0,
      same-sums c.self.inside.games.items c.args.i c.args.game c.self.inside.table
          (subst (λ (games : List Entry). c.args.i < length games) (sym is) c.requires.game)
          (c.requires.same ∙ ap (λ (games : List Entry). counted (entry_at games c.args.i)) (sym is)) c.self.invariant.1,
    )
