use Rattle.std.proofs.Common.{rules, ◌≡◌, ◌++◌, leb}
use Rattle.std.proofs.lemmas.List.Sorted.{IsPartitionPoint-from_clause}
use Rattle.pos_index.proofs.PointLemmas.{end_upto, put_there}
use Rattle.pos_index.proofs.hits.Hits.put.Goals as goal

pub returns-clause-put : goal.returns-clause-put
returns-clause-put c = λ before behind is le gt.
    let all : c.as_slice.result.now ≡ before ++ behind = search (rules, is) in
    let at = end_upto c.args.hit.game c.partition_point-place.result c.as_slice.result.now before behind c.args.hit all le gt c.partition_point-place.ensures.bound
    (λ parted. IsPartitionPoint-from_clause (λ h. leb h.game c.args.hit.game) _ _ c.partition_point-place.ensures.partitioned parted (λ a r q k. search rules)) in
    put_there c.as_slice.result.now c.insert.new.self.items before behind c.partition_point-place.result c.args.hit all at (search rules)
