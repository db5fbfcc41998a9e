-- How the games of a base are taken (this project's own).
use Rattle.std.specs.Prelude.{ℕ, List, length, Result, Ok, Err}
use Rattle.index_entry.specs.declared.fault.IndexFault.{IndexFault}
use Rattle.index_entry.specs.declared.index.IndexHead.{IndexHead}
use Rattle.mend_base.specs.Entries.{entries_found, head_found}
use Rattle.mend_base.specs.declared.fronts.Faulty.{Faulty}
use Rattle.mend_base.specs.declared.fronts.Faulty.TheVariants as faulty
use Rattle.mend_base.specs.declared.ways.Way.{Way}

-- The number of the entries of an index file with this header: none if it has none.
abbrev pub known_by : List ℕ → Result IndexHead IndexFault → ℕ
known_by index (Ok header) = entries_found index
known_by index (Err fault) = 0

abbrev pub known_entries : List ℕ → ℕ
known_entries index = known_by index (head_found index)

-- The way for an index file: the games behind its entries are records that have none.
abbrev pub way_of : Faulty → List ℕ → Way
way_of faulty index = record { faulty = faulty; known = known_entries index; len = length index }

-- The same, with faulty records left out, or with what is saved of them.
abbrev pub left_out : Way → Way
left_out way = record way { faulty = faulty.LeftOut }

abbrev pub fronts : Way → Way
fronts way = record way { faulty = faulty.Fronts }
