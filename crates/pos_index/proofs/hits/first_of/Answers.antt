use Rattle.std.proofs.Common.{rules, None, ltb}
use Rattle.std.proofs.lemmas.List.Sorted.{IsPartitionPoint-from_clause}
use Rattle.pos_index.proofs.PointLemmas.{end_before}
use Rattle.pos_index.proofs.hits.first_of.Goals as goal

pub returns-clause-first : goal.returns-clause-first
returns-clause-first c = λ before behind is lt ge.
    end_before c.args.game c.partition_point.result c.args.hits.now before behind (record { game = 0; ply = 0; next = None }) is lt ge c.partition_point.ensures.bound
    (λ parted. IsPartitionPoint-from_clause (λ h. ltb h.game c.args.game) _ _ c.partition_point.ensures.partitioned parted (λ a r q k. search rules))
