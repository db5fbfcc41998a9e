use Rattle.std.proofs.Common.{rules, ◌≡◌, ◌<◌, ◌∙◌, subst, sym, arith, get_or, length}
use Rattle.pos_index.specs.declared.hit.Hit.{Hit}
use Rattle.pos_index.proofs.MovedLemmas.{hit_goes, hit_stays, hit_there}
use Rattle.pos_index.proofs.hits.renumber.Goals.{in-Some, in_default}
use Rattle.pos_index.proofs.hits.renumber.Goals as goal

pub bounds : goal.bounds
bounds c =
    let hit = c.index-hits-k.result in
    let old : hit ≡ get_or c.args.hits.now c.loop-k.k hit = c.index-hits-k.is ∙ hit_there c.args.to.now c.args.hits.now c.loop-k.hits c.loop-k.k c.loop-k.kept hit c.loop-k.invariant in
    let known = c.requires c.loop-k.k hit (omega (arith, c.loop-k-test.true, c.loop-k.invariant.len, c.loop-k.auto)) in
    subst (λ (h : Hit). h.game < length c.args.to.now) (sym old) known

pub loop-k-preserved : goal.loop-k-preserved
loop-k-preserved c = elim c.match-to-hit.branch [
  | in-Some w ↦
      hit_stays c.args.to.now c.args.hits.now c.loop-k.hits c.match-to-hit.hits c.loop-k.k c.loop-k.kept c.match-to-hit.kept w.in-Some.number c.index-hits-k.result c.loop-k.invariant
      (search rules) c.index-hits-k.is (search rules) w.hits-is w.kept-is
  | in_default w ↦
      hit_goes c.args.to.now c.args.hits.now c.loop-k.hits c.match-to-hit.hits c.loop-k.k c.loop-k.kept c.match-to-hit.kept c.index-hits-k.result c.loop-k.invariant
      (search rules) c.index-hits-k.is (search rules) w.hits-is w.kept-is
]
