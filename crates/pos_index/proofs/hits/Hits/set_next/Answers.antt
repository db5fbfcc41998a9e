use Rattle.std.proofs.Common.{rules, ◌≡◌, ◌+◌, ◌∷◌, ◌++◌, ◌∙◌, length, set}
use Rattle.std.specs.Prelude.{slice_index_or}
use Rattle.std.proofs.lemmas.List.{length-set}
use Rattle.pos_index.specs.declared.hit.Hit.{Hit}
use Rattle.pos_index.proofs.ListedLemmas.{written_back}
use Rattle.pos_index.proofs.PointLemmas.{next_apart}
use Rattle.pos_index.proofs.hits.Hits.set_next.Goals as goal

pub returns-then-rank-len : goal.returns-then-rank-len
returns-then-rank-len c = λ before own behind hit is lt ge rank.
    let xs = c.as_mut_slice.result.now in
    let place = c.first_of-first.result + c.args.rank in
    let same : xs ≡ c.args.self.now = search rules in
    let other : Hit = record {
      game = (slice_index_or xs place c.index-as_mut_slice-first.result).game;
      ply = (slice_index_or xs place c.index-as_mut_slice-first.result).ply;
      next = c.args.next.now;
    } in
    written_back (set xs place other) c.self.inside.hits.items (length c.self.inside.hits.items) (search (rules, length-set xs place other))
    ∙ next_apart xs before own behind hit c.index-as_mut_slice-first.result c.first_of-first.result c.args.rank c.args.next.now (same ∙ is)
    (c.first_of-first.ensures.first before (own ++ hit ∷ behind) is lt ge) rank
