-- What the adapters over the standard library's streams and files count (this project's own).
use Rattle.std.specs.Prelude.{ℕ, List, None}
use Rattle.base_files.specs.Chosen.{Choice}
use Rattle.base_files.specs.Seen.{Seen}

-- An input: how many bytes it will still give at most, and how many faults it counted.
pub record InputMeter : Type 0 where
  pub budget : ℕ
  pub faults : ℕ

-- An output: how many faults it counted.
pub record OutputMeter : Type 0 where
  pub faults : ℕ

-- The files of a base: the names that were chosen, the known length of the games file, the bytes added to the new games file, the
-- bytes asked of the games file, and the faults.
pub record DiskMeter : Type 0 where
  pub choices : List Choice
  pub known : ℕ
  pub added : ℕ
  pub asked : ℕ
  pub faults : ℕ

-- What files on a disk show: nothing of their contents.
abbrev pub seen_of : DiskMeter → Seen
seen_of meter = record {
  index = None;
  names = None;
  games = None;
  fresh = None;
  choices = meter.choices;
  known = meter.known;
  added = meter.added;
}
