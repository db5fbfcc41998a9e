-- What a table keeps of its lines (this project's own). Only the model of a table and private functions cite these words.
use Rattle.std.specs.Prelude.{◌≡◌, ◌≤◌, ℕ, List, All, length, map, sum}
use Rattle.cell_core.specs.Board.{Men}
use Rattle.cell_core.specs.Packed.{Packed, cells_of, men_of}
use Rattle.chess_laws.specs.Counts.{counts_of}
use Rattle.chess_laws.specs.declared.setup.Setup.{Setup}
use Rattle.eco_class.specs.declared.table.Named.{Named}
use Rattle.eco_class.specs.Table.{Opening}

-- The line with this number and code that ends at a position.
abbrev pub opening : ℕ → ℕ → Setup → Opening
opening number code p = record { line = number; code = code; board = p.board; side = p.side }

-- The line that an entry stands for, and the lines of all entries.
abbrev pub opening_of : Packed × Named → Opening
opening_of entry = record { line = entry.1.line; code = entry.1.code; board = men_of entry.0.cells; side = entry.0.side }

abbrev pub openings_of : List (Packed × Named) → List Opening
openings_of entries = map opening_of entries

-- How many men are on a board, kings not counted.
abbrev pub men_in : Men → ℕ
men_in men = sum (counts_of men)

-- A packed board is that of its men.
abbrev pub GivesBack : Packed → Type 0
GivesBack key = cells_of (men_of key.cells) ≡ key.cells

-- Each entry is that of a packed board, has a code, and has at least so many men; and there are not too many entries.
pub record IsEntry (least : ℕ) (entry : Packed × Named) : Type 0 where
  pub key : GivesBack entry.0
  pub some : 1 ≤ entry.1.code
  pub small : entry.1.code ≤ 65500
  pub men : least ≤ men_in (men_of entry.0.cells)

pub record IsKept (entries : List (Packed × Named)) (least : ℕ) : Type 0 where
  pub each : All (IsEntry least) entries
  pub few : length entries ≤ 65536
