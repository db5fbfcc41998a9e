-- What the building of an index asks of the games file (this project's own).
use Rattle.std.specs.Prelude.{ℕ, List, sum_by}
use Rattle.base_files.specs.declared.extent.Extent.{Extent}

-- The lengths of all records.
abbrev pub price : List Extent → ℕ
price extents = sum_by (λ (extent : Extent). extent.len) extents
