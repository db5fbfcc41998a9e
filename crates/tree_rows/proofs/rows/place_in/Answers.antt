use Rattle.std.proofs.Common.{rules}
use Rattle.std.proofs.lemmas.List.Sorted.{IsPartitionPoint-from_clause}
use Rattle.tree_rows.proofs.Finding.{place-found, stands_before}
use Rattle.tree_rows.proofs.rows.place_in.Goals as goal

pub returns-clause-place : goal.returns-clause-place
returns-clause-place c =
    place-found c.args.key.now c.args.rows.now c.partition_point.result c.requires c.partition_point.ensures.bound
    (λ parted. IsPartitionPoint-from_clause (stands_before c.args.key.now) _ _ c.partition_point.ensures.partitioned parted (λ a r q k. search rules))
