use Rattle.std.proofs.Common.{arith}
use Rattle.game_filter.proofs.Counts.{count_in_next}
use Rattle.game_filter.proofs.plies.count.Goals as goal

pub loop-i-preserved : goal.loop-i-preserved
loop-i-preserved c = grind (arith, count_in_next c.args.entries.now c.loop-i.i (omega arith))
