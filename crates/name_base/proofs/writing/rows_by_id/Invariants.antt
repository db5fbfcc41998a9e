-- The rows so far and those of the names that are left are the rows of all names.
use Rattle.std.proofs.Common.{◌≡◌, ◌++◌, map, drop}
use Rattle.name_base.specs.NamesText.{rows_from}
use Rattle.name_base.proofs.writing.rows_by_id.Given as goal

abbrev pub invariant-loop-id : goal.invariant-loop-id
invariant-loop-id l = map (λ r. record { id = r.id; frequency = r.frequency; name = r.name.now }) l.rows.items ++ rows_from l.id (drop l.id l.names) (drop l.id l.frequencies)
    ≡ rows_from 0 l.names l.frequencies
