-- The names that are left, put among the names so far, give what all of them give.
use Rattle.std.proofs.Common.{◌≡◌, ◌≤◌, ◌<◌, [], length, map, replicate}
use Rattle.std.specs.List.{AllByRecursion, zip}
use Rattle.name_base.specs.Reading.{put_names}
use Rattle.name_base.proofs.kind_reader.by_id.Given as goal

abbrev pub invariant-loop-name : goal.invariant-loop-name
invariant-loop-name l = record {
  same : put_names (map (λ p. record { id = p.1; name = p.0.items }) (zip l.met.keys l.fn.ids)) (map (λ v. v.items) l.names.items)
      ≡ put_names (map (λ p. record { id = p.1; name = p.0.items }) (zip l.fn.met.keys l.fn.ids)) (replicate l.fn.count []);
  long : length l.names.items ≡ l.fn.count;
  within : length l.met.keys ≤ length l.fn.ids;
  below : AllByRecursion (λ p. p.1 < l.fn.count) (zip l.met.keys l.fn.ids);
}

abbrev pub decreases-loop-name : goal.decreases-loop-name
decreases-loop-name l = length l.met.keys
