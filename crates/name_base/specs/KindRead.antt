-- What was read of a kind.
use Rattle.std.specs.Prelude.{◌<◌, ℕ, nat_eq, List, map}
use Rattle.std.specs.List.{AllByRecursion, IsDistinct}
use Rattle.std.specs.Str.{bytes_eq}
use Rattle.name_base.specs.NameLists.{IsName}
use Rattle.name_base.specs.NamesFile.{Entry}

-- The number of names that the kind has in the file, and those that were read, in the order of the file.
pub record KindRead : Type 0 where
  pub count : ℕ
  pub entries : List Entry

-- What holds of the names that were read of a kind with so many: ids below the count, and no id and no name twice.
pub record AreMet (count : ℕ) (es : List Entry) : Type 0 where
  pub ids : IsDistinct nat_eq (map (λ e. e.id) es)
  pub once : IsDistinct bytes_eq (map (λ e. e.name) es)
  pub below : AllByRecursion (λ e. e.id < count) es
  pub each : AllByRecursion (λ e. IsName e.name) es
