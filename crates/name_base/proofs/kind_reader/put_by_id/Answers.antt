-- A name that is at its place stays there; one that is not comes to its place.
use Rattle.std.proofs.Common.{get_or, refl, sym}
use Rattle.name_base.proofs.PlaceLemmas.{ArePlaced-first, ArePlaced-swap, all_placed, fewer_strays}
use Rattle.name_base.proofs.kind_reader.put_by_id.Goals as goal

pub loop-place-init : goal.loop-place-init
loop-place-init c = ArePlaced-first (λ v. v.items) c.args.names.now.keys c.args.ids.now c.requires.long c.requires.met

pub loop-place-smaller : goal.loop-place-smaller
loop-place-smaller c =
    fewer_strays (λ v. v.items) c.args.names.now.keys c.args.ids.now c.loop-place.names.keys c.loop-place.ids c.loop-place.place c.loop-place.invariant c.loop-place-test.true
    (get_or c.loop-place.ids c.loop-place.place 0) refl (λ same. c.if-id-place.false (sym same)) c.swap.new.self c.swap.ensures.after

pub loop-place-preserved : goal.loop-place-preserved
loop-place-preserved c =
    ArePlaced-swap (λ v. v.items) c.args.names.now.keys c.args.ids.now c.loop-place.names.keys c.loop-place.ids c.loop-place.place c.loop-place.invariant c.loop-place-test.true
    (get_or c.loop-place.ids c.loop-place.place 0) refl (λ same. c.if-id-place.false (sym same)) c.swap_indices.new.self.keys c.swap.new.self c.swap_indices.ensures.keys c.swap.ensures.after

pub returns : goal.returns
returns c = all_placed (λ v. v.items) c.args.names.now.keys c.args.ids.now c.loop-place.names.keys c.loop-place.ids c.loop-place.place c.loop-place.invariant c.loop-place-test.false
