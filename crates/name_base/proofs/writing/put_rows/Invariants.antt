-- What was written and the names that are left give the bytes of all names.
use Rattle.std.proofs.Common.{◌≡◌, ◌++◌, ℕ, List, map, drop}
use Rattle.std.specs.Option.{option_copied}
use Rattle.name_base.specs.NamesFile.{frequency_width, kind_bytes}
use Rattle.name_base.specs.NamesText.{stored_rows, rows_bytes}
use Rattle.name_base.proofs.writing.put_rows.Given as goal

abbrev pub invariant-loop-row : goal.invariant-loop-row
invariant-loop-row l = (rest : List ℕ) → l.out.items
    ++ kind_bytes l.fn.shape (option_copied l.before)
    (stored_rows (frequency_width l.fn.shape.greatest) (option_copied l.before) (map (λ r. record { id = r.id; frequency = r.frequency; name = r.name.now }) (drop l.row-index l.rows))) rest
    ≡ l.fn.out.items ++ rows_bytes l.fn.shape (map (λ r. record { id = r.id; frequency = r.frequency; name = r.name.now }) l.rows) rest
