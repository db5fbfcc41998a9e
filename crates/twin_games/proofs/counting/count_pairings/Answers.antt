use Rattle.std.proofs.Common.{arith}
use Rattle.twin_games.proofs.CountLemmas.{all_counted, none_counted}
use Rattle.twin_games.proofs.counting.count_pairings.Goals as goal

pub loop-i-init : goal.loop-i-init
loop-i-init g c = none_counted c.new-counts.result c.new-counts.ensures.empty

pub returns : goal.returns
returns g c =
    all_counted c.loop-i.counts (g.G.Games.heads c.args.games.now) c.loop-i.i (omega (arith, c.len-i-end.ensures.one_head_each, c.loop-i-test.false)) c.loop-i.invariant
