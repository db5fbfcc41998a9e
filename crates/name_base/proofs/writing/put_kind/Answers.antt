-- The fields of the kind hold its rows.
use Rattle.std.proofs.Common.{◌<◌, ◌^◌, sym, subst, All}
use Rattle.name_base.specs.declared.header.Shape.{Shape}
use Rattle.name_base.specs.NamesText.{FitsShape}
use Rattle.name_base.proofs.TextLemmas.{greatest_small, rows_fit}
use Rattle.name_base.proofs.writing.put_kind.Goals as goal

pub put_rows-requires-clause-rows : goal.put_rows-requires-clause-rows
put_rows-requires-clause-rows c =
    subst (λ rows. All (λ r. FitsShape c.args.shape (record { id = r.id; frequency = r.frequency; name = r.name.now })) rows) (sym c.as_slice.ensures.value)
    (rows_fit (λ r. record { id = r.id; frequency = r.frequency; name = r.name.now }) 1048576 c.args.shape c.args.names.now c.args.frequencies.now c.in_ok-rows.rows.items c.requires.names c.requires.shape c.in_ok-rows.ensures)

pub put_rows-requires-clause-greatest : goal.put_rows-requires-clause-greatest
put_rows-requires-clause-greatest c =
    subst (λ (s : Shape). s.greatest < 2 ^ 24) (sym c.requires.shape) (greatest_small c.args.frequencies.now c.requires.frequencies.small)
