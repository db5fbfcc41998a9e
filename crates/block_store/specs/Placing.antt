-- Where a record is placed in the games file: at its end, if it fits into the block there, and else at the beginning of the next
-- block, behind zero bytes (this project's own choice, in Scid's format si4).
use Rattle.std.specs.Prelude.{◌≡◌, ℕ, ◌+◌, ◌-◌, ◌%◌, nat_le, if◌then◌else◌, List, ◌++◌, replicate, length}
use Rattle.base_files.specs.Extents.{block_len}
use Rattle.base_files.specs.Told.{TellsLength}
use Rattle.base_files.specs.Seen.{Seen}
use Rattle.base_files.specs.declared.extent.Extent.{Extent}
use Rattle.base_files.specs.declared.faults.DeviceError.{DeviceError}
use Rattle.base_files.specs.declared.faults.DeviceError.TheVariants as device
use Rattle.block_store.specs.declared.fault.StoreError.{StoreError}
use Rattle.block_store.specs.declared.fault.StoreError.TheVariants as store

-- How many zero bytes come before a record of `len` bytes, if the games file ends at `end`.
unfoldable pub padding : ℕ → ℕ → ℕ
padding end len = if nat_le (end % block_len + len) block_len then 0 else block_len - end % block_len

-- The place of the record.
abbrev pub placed_at : ℕ → ℕ → Extent
placed_at end len = record { offset = end + padding end len; len = len }

-- Where the games file then ends.
abbrev pub end_after : ℕ → ℕ → ℕ
end_after end len = end + padding end len + len

-- The greatest length of a games file.
abbrev pub longest_file : ℕ
longest_file = 4294967295

-- What is added to the games file with a record.
abbrev pub padded : ℕ → List ℕ → List ℕ
padded end bytes = replicate (padding end (length bytes)) 0 ++ bytes

-- The end of a store is that of the games file: of what is told, and the length that is known.
pub record IsEnd (end : ℕ) (seen : Seen) : Type 0 where
  pub known : end ≡ seen.known
  pub told : TellsLength seen.games end

-- The answer for an error of the files.
abbrev pub store_error : DeviceError → StoreError
store_error device.Failed = store.Failed
store_error device.Memory = store.Memory
