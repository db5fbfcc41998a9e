use Rattle.std.proofs.Common.{rules, ◌∷◌, ◌++◌}
use Rattle.pos_index.proofs.PointLemmas.{taken_apart}
use Rattle.pos_index.proofs.hits.Hits.take.Goals as goal

pub returns-then-rank-len : goal.returns-then-rank-len
returns-then-rank-len c = λ before own behind hit is lt ge rank.
    taken_apart c.args.self.now c.remove.new.self.items before own behind hit c.first_of-first.result c.args.rank is
    (c.first_of-first.ensures.first before (own ++ hit ∷ behind) is lt ge) rank (search rules)
