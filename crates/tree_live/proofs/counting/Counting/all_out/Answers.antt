use Rattle.std.proofs.Common.{List, length, take, ap, arith}
use Rattle.tree_live.specs.declared.entry.Entry.{Entry}
use Rattle.tree_live.proofs.GameLaws.{out-few, out-sums}
use Rattle.tree_live.proofs.counting.Counting.all_out.Goals as goal

pub invariant_of-result : goal.invariant_of-result
invariant_of-result c =
    let size = ap (λ (list : List Entry). length list) c.loop-hit.invariant in
    let few = out-few c.args.hits.now c.loop-hit.hit-index in (
      omega (arith, size, few, c.requires.few, c.loop-hit.games.ok.0),
      out-sums (take c.loop-hit.hit-index c.args.hits.now) c.loop-hit.games.items c.new.result c.loop-hit.invariant c.new.ensures.none,
    )
