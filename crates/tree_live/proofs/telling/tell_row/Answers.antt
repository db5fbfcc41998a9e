use Rattle.tree_live.proofs.ViewLaws.{row-put}
use Rattle.tree_live.proofs.telling.tell_row.Goals as goal

pub returns-in-Some-clause-told : goal.returns-in-Some-clause-told
returns-in-Some-clause-told g c = row-put c.put.result c.args.key.now c.in-Some.row c.args.table.now _ _ c.in-Some.ensures.row c.put.ensures.0
