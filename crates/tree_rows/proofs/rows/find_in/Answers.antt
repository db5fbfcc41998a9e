use Rattle.std.proofs.Common.{sym}
use Rattle.tree_rows.proofs.Finding.{found-none, found-row}
use Rattle.tree_rows.proofs.Placing.{has-within}
use Rattle.tree_rows.proofs.rows.find_in.Goals as goal

pub bounds-rows-place : goal.bounds-rows-place
bounds-rows-place c = has-within c.args.rows.now c.place_in-place.result c.args.key.now (sym c.if-has_key.ensures)

pub returns-then-has_key : goal.returns-then-has_key
returns-then-has_key c =
    found-row c.args.key.now c.args.rows.now c.place_in-place.result c.index-rows-place.result c.requires c.place_in-place.ensures.place c.if-has_key.ensures c.index-rows-place.is

pub returns-else-has_key : goal.returns-else-has_key
returns-else-has_key c = found-none c.args.key.now c.args.rows.now c.place_in-place.result c.requires c.place_in-place.ensures.place c.if-has_key.ensures
