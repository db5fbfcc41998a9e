use Rattle.std.proofs.Common.{◌<◌, ◌∙◌, List, length, sym, ap, subst, arith}
use Rattle.tree_live.specs.declared.entry.Entry.{Entry}
use Rattle.tree_live.specs.Keeping.{entry_at}
use Rattle.tree_live.proofs.HitLaws.{enters-room, enters-sums}
use Rattle.tree_live.proofs.counting.Counting.enter.Goals as goal

pub add_hit-requires : goal.add_hit-requires
add_hit-requires c =
    let is = c.self.view_is in
    record {
      few = enters-room c.self.inside.games.items c.args.i c.self.inside.table
          (subst (λ (games : List Entry). c.args.i < length games) (sym is) c.requires.game)
          (omega (arith, c.self.invariant.0, c.self.inside.games.ok.0))
          (ap (λ (games : List Entry). entry_at games c.args.i) is ∙ c.requires.out) c.self.invariant.1;
    }

pub invariant_of-self-2 : goal.invariant_of-self-2
invariant_of-self-2 c =
    let is = c.self.view_is in (
      c.self.invariant.0,
      enters-sums c.self.inside.games.items c.args.i c.args.game c.args.hit.now c.self.inside.table c.add_hit.new.self
          (subst (λ (games : List Entry). c.args.i < length games) (sym is) c.requires.game)
          (ap (λ (games : List Entry). entry_at games c.args.i) is ∙ c.requires.out) c.requires.counted c.self.invariant.1
          c.in_ok-add_hit.ensures.hit c.in_ok-add_hit.ensures.among,
    )
