-- The names that are at their places stay there.
use Rattle.std.proofs.Common.{length, ◌-◌, ◌+◌}
use Rattle.name_base.proofs.PlaceLemmas.{ArePlaced, strays}
use Rattle.name_base.proofs.kind_reader.put_by_id.Given as goal

abbrev pub invariant-loop-place : goal.invariant-loop-place
invariant-loop-place l = ArePlaced (λ v. v.items) l.fn.names.keys l.fn.ids l.names.keys l.ids l.place

abbrev pub decreases-loop-place : goal.decreases-loop-place
decreases-loop-place l = strays 0 l.ids + (length l.ids - l.place)
