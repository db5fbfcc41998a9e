-- What the marks of a reader say.
use Rattle.std.specs.Prelude.{◌≡◌, ◌≤◌, ◌<◌, ℕ, Bool, false, List, length, slice_index_or}
use Rattle.name_base.specs.NamesFile.{Entry}
use Rattle.name_base.specs.Reading.{has_id}

-- There is a mark for each id, which says whether the id was met.
pub record IsReading (taken : List Bool) (met : List Entry) : Type 0 where
  pub few : length taken ≤ 1048576
  pub marks : (id : ℕ) → id < length taken → slice_index_or taken id false ≡ has_id met id
