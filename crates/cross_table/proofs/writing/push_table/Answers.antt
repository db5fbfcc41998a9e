use Rattle.std.proofs.Common.{length, refl}
use Rattle.cross_table.proofs.Steps.{on-ok, table_pushed}
use Rattle.cross_table.proofs.writing.push_table.Goals as goal

pub returns : goal.returns
returns c =
    on-ok c.push_last.result
    (table_pushed c.args.rows.now c.args.games c.args.into.now.items c.push_rows.new.into.items c.push_last.new.into.items (length c.args.rows.now)
    c.in_ok-push_rows.ensures refl)
    c.push_last.ensures
