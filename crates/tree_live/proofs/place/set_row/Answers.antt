use Rattle.std.proofs.Common.{◌∙◌, refl, ap, arith}
use Rattle.tree_live.specs.Keeping.{place_of}
use Rattle.tree_live.proofs.ViewLaws.{sets_there, sets_behind, differ_there, differ_behind}
use Rattle.tree_live.proofs.place.set_row.Goals as goal

pub returns-then-place-len-clause-set : goal.returns-then-place-len-clause-set
returns-then-place-len-clause-set c =
    sets_there c.args.rows.now.items _ c.args.row c.place_of-place.result
    (c.place_of-place.ensures.place ∙ ap (place_of c.args.row.key) c.as_slice.ensures.value) (omega (arith, c.args.rows.now.ok.0)) refl

pub returns-then-place-len-clause-differ : goal.returns-then-place-len-clause-differ
returns-then-place-len-clause-differ c differ =
    differ_there c.args.rows.now.items _ c.args.row c.place_of-place.result
    (c.place_of-place.ensures.place ∙ ap (place_of c.args.row.key) c.as_slice.ensures.value) refl differ

pub returns-clause-set : goal.returns-clause-set
returns-clause-set c =
    sets_behind c.args.rows.now.items c.push.new.self.items c.args.row c.place_of-place.result
    (c.place_of-place.ensures.place ∙ ap (place_of c.args.row.key) c.as_slice.ensures.value) (omega (arith, c.args.rows.now.ok.0)) c.in_ok-push.ensures.items

pub returns-clause-differ : goal.returns-clause-differ
returns-clause-differ c differ =
    differ_behind c.args.rows.now.items c.push.new.self.items c.args.row c.place_of-place.result
    (c.place_of-place.ensures.place ∙ ap (place_of c.args.row.key) c.as_slice.ensures.value) (omega (arith, c.args.rows.now.ok.0)) c.in_ok-push.ensures.items differ
