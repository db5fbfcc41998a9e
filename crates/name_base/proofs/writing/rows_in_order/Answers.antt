-- The sort moves rows only, and rows are ordered by their names first.
use Rattle.std.proofs.Common.{map, subst, refl}
use Rattle.std.specs.List.Sorted.{IsPermutation}
use Rattle.std.specs.Ordering.{nat_cmp, ordering_then}
use Rattle.std.proofs.lemmas.List.Sorted.{IsPermutation-map}
use Rattle.name_base.proofs.TextLemmas.{sorted_names}
use Rattle.name_base.proofs.writing.rows_in_order.Goals as goal

pub returns : goal.returns
returns c = record {
  same = subst (λ rows. IsPermutation rows (map (λ r. record { id = r.id; frequency = r.frequency; name = r.name.now }) c.sort.new.self.items)) c.in_ok-rows.ensures
      (IsPermutation-map (λ r. record { id = r.id; frequency = r.frequency; name = r.name.now }) _ _ c.in_ok-sort.ensures.permutation);
  sorted = sorted_names (λ r. record { id = r.id; frequency = r.frequency; name = r.name.now }) _ (λ x y. ordering_then (nat_cmp x.id y.id) (nat_cmp x.frequency y.frequency)) c.sort.new.self.items (λ x y. refl) c.in_ok-sort.ensures.sorted;
}
