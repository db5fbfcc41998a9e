use Rattle.std.proofs.Common.{List, length, sym, ap, subst, arith}
use Rattle.tree_live.specs.declared.entry.Entry.{Entry}
use Rattle.tree_live.specs.Keeping.{Sums}
use Rattle.tree_live.proofs.HitLaws.{pushed-sums}
use Rattle.tree_live.proofs.counting.Counting.add_game.Goals as goal

pub invariant_of-self-2 : goal.invariant_of-self-2
invariant_of-self-2 c =
    let size = ap (λ (l : List Entry). length l) c.self.view_is in (
      omega (arith, size, c.requires.room, c.self.inside.games.ok.0, c.in_ok-push.ensures.len),
      subst (λ (games : List Entry). Sums games c.self.inside.table) (sym c.in_ok-push.ensures.items) (pushed-sums c.self.inside.games.items c.self.inside.table c.self.invariant.1),
    )
