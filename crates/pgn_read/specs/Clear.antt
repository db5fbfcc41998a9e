-- How far a text was searched. No public contract cites these words.
use Rattle.std.specs.Prelude.{◌≡◌, ◌≤◌, ℕ, true, List, length, take}
use Rattle.std.specs.List.{list_all}
use Rattle.pgn_read.specs.declared.clear.Clear.{Clear}
use Rattle.pgn_read.specs.declared.run.Run.{Run}
use Rattle.pgn_read.specs.declared.run.Run.TheVariants as run
use Rattle.pgn_read.specs.Bytes.{is_of}

-- So many bytes at a text's beginning are all of a kind.
pub record BeginsWith (kind : Run) (count : ℕ) (text : List ℕ) : Type 0 where
  pub there : count ≤ length text
  pub all : list_all (is_of kind) (take count text) ≡ true

-- What was searched of a text has no closing brace and no zero.
pub record IsClear (clear : Clear) (text : List ℕ) : Type 0 where
  pub braces : BeginsWith run.ToBrace clear.braces text
  pub zeros : BeginsWith run.ToZero clear.zeros text

abbrev pub nothing_clear : Clear
nothing_clear = record { braces = 0; zeros = 0 }
