-- The loop has written each value.
use Rattle.std.proofs.Common.{arith}
use Rattle.std.proofs.lemmas.List.FromFn.{fill_by_all}
use Rattle.index_entry.specs.Reading.{home_at}
use Rattle.index_entry.proofs.unpacking.home_of.Goals as goal

pub returns : goal.returns
returns c = fill_by_all (home_at c.args.b.now) c.loop-i.home 16 0 c.loop-i.invariant.0 (λ k h. c.loop-i.invariant.1 k (omega arith))
