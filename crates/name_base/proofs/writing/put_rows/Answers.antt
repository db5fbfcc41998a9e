-- One more row.
use Rattle.std.proofs.Common.{◌++◌, map}
use Rattle.std.specs.Option.{option_copied}
use Rattle.std.proofs.lemmas.Option.{slice_get-get_or}
use Rattle.name_base.specs.NamesText.{rows_bytes}
use Rattle.name_base.proofs.TextLemmas.{row_more}
use Rattle.name_base.proofs.writing.put_rows.Goals as goal

pub loop-row-preserved : goal.loop-row-preserved
loop-row-preserved c =
    row_more (λ r. record { id = r.id; frequency = r.frequency; name = r.name.now }) c.args.rows.now _ c.loop-row.row-index c.args.shape (option_copied c.loop-row.before)
    c.loop-row.out.items c.put_row.new.out.items
    (λ rest. c.args.out.now.items ++ rows_bytes c.args.shape (map (λ r. record { id = r.id; frequency = r.frequency; name = r.name.now }) c.args.rows.now) rest)
    (slice_get-get_or c.args.rows.now c.loop-row.row-index _ c.loop-row-test.true) c.in_ok-put_row.ensures c.loop-row.invariant
