use Rattle.std.proofs.Common.{◌∙◌, ap, arith}
use Rattle.tree_live.specs.Keeping.{place_of}
use Rattle.tree_live.proofs.ViewLaws.{sets_out, sets_none, differ_out}
use Rattle.tree_live.proofs.place.take_row.Goals as goal

pub returns-then-place-len-clause-out : goal.returns-then-place-len-clause-out
returns-then-place-len-clause-out c =
    sets_out c.args.rows.now.items c.remove.new.self.items c.args.key.now c.place_of-place.result
    (c.place_of-place.ensures.place ∙ ap (place_of c.args.key.now) c.as_slice.ensures.value) c.requires.differ c.remove.ensures.items

pub returns-then-place-len-clause-differ : goal.returns-then-place-len-clause-differ
returns-then-place-len-clause-differ c =
    differ_out c.args.rows.now.items c.remove.new.self.items c.args.key.now c.place_of-place.result
    (c.place_of-place.ensures.place ∙ ap (place_of c.args.key.now) c.as_slice.ensures.value) c.requires.differ c.remove.ensures.items

pub returns-else-place-len-clause-out : goal.returns-else-place-len-clause-out
returns-else-place-len-clause-out c =
    sets_none c.args.rows.now.items c.args.key.now c.place_of-place.result
    (c.place_of-place.ensures.place ∙ ap (place_of c.args.key.now) c.as_slice.ensures.value) (omega (arith, c.args.rows.now.ok.0))
