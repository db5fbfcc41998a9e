use Rattle.std.proofs.Common.{rules, ◌≡◌, ◌-◌, [], ◌∷◌, ◌++◌, leb, sym, ◌∙◌, arith}
use Rattle.std.proofs.lemmas.List.{append_assoc, length_push}
use Rattle.std.proofs.lemmas.List.Sorted.{IsPartitionPoint-from_clause}
use Rattle.pos_index.proofs.PointLemmas.{end_upto, taken_there}
use Rattle.pos_index.proofs.hits.Hits.take_last.Goals as goal

pub returns-then-place-gt0 : goal.returns-then-place-gt0
returns-then-place-gt0 c = λ before behind hit is le gt.
    let all : c.as_slice.result.now ≡ before ++ hit ∷ behind = search (rules, is) in
    let at = end_upto c.args.game c.partition_point-place.result c.as_slice.result.now (before ++ hit ∷ []) behind hit
    (all ∙ sym (append_assoc before (hit ∷ []) behind)) le gt c.partition_point-place.ensures.bound
    (λ parted. IsPartitionPoint-from_clause (λ h. leb h.game c.args.game) _ _ c.partition_point-place.ensures.partitioned parted (λ a r q k. search rules)) in
    taken_there c.as_slice.result.now c.remove.new.self.items before behind (c.partition_point-place.result - 1) hit all
    (omega (arith, at, length_push before hit)) (search rules)

pub returns-else-place-gt0 : goal.returns-else-place-gt0
returns-else-place-gt0 c = λ before behind hit is le gt.
    let all : c.as_slice.result.now ≡ before ++ hit ∷ behind = search (rules, is) in
    let at = end_upto c.args.game c.partition_point-place.result c.as_slice.result.now (before ++ hit ∷ []) behind hit
    (all ∙ sym (append_assoc before (hit ∷ []) behind)) le gt c.partition_point-place.ensures.bound
    (λ parted. IsPartitionPoint-from_clause (λ h. leb h.game c.args.game) _ _ c.partition_point-place.ensures.partitioned parted (λ a r q k. search rules)) in
    absurd (omega (arith, at, length_push before hit, c.if-place-gt0.false))
