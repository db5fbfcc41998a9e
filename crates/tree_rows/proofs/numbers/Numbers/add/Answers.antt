use Rattle.std.proofs.Common.{arith}
use Rattle.tree_rows.specs.Keeping.{plus}
use Rattle.tree_rows.proofs.numbers.Numbers.add.Goals as goal

pub summed-self-requires : goal.summed-self-requires
summed-self-requires c = record { room = omega (arith, c.requires.room.within.mover_sum, c.requires.room.few) }

pub summed-self-requires-2 : goal.summed-self-requires-2
summed-self-requires-2 c = record { room = omega (arith, c.requires.room.within.other_sum, c.requires.room.few) }

pub summed-self-requires-3 : goal.summed-self-requires-3
summed-self-requires-3 c = record { room = omega (arith, c.requires.room.within.year_sum, c.requires.room.few) }

pub returns-clause-plus : goal.returns-clause-plus
unfolding plus
returns-clause-plus c = λ i. record {
  games = c.counted-self.ensures.sum i;
  white = c.counted-self-2.ensures.sum i;
  draws = c.counted-self-3.ensures.sum i;
  black = c.counted-self-4.ensures.sum i;
  unfinished = c.counted-self-5.ensures.sum i;
  mover_sum = c.summed-self.ensures.sum i;
  mover_rated = c.counted-self-6.ensures.sum i;
  other_sum = c.summed-self-2.ensures.sum i;
  other_rated = c.counted-self-7.ensures.sum i;
  year_sum = c.summed-self-3.ensures.sum i;
  dated = c.counted-self-8.ensures.sum i;
}
