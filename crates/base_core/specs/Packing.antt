-- Entries one after the other in one list of bytes, as the list of entries keeps them (this project's own).
use Rattle.std.specs.Prelude.{◌≡◌, ◌≤◌, ◌<◌, ◌*◌, ℕ, List, length, map, take, drop, slice_get, Some}
use Rattle.std.specs.List.{range_with_len}
use Rattle.index_entry.specs.Entry.{IsWritten, entry_in}
use Rattle.index_entry.specs.declared.entry.Entry.{Entry}

-- The 47 bytes of an entry.
abbrev pub packed_at : List ℕ → ℕ → List ℕ
packed_at bytes i = take 47 (drop (47 * i) bytes)

-- So many entries.
unfoldable pub entries_in : List ℕ → ℕ → List Entry
entries_in bytes count = map (λ i. entry_in (packed_at bytes i)) (range_with_len 0 count)

-- The bytes are so many entries, each in its written form.
pub record ArePacked (bytes : List ℕ) (count : ℕ) : Type 0 where
  pub size : length bytes ≡ 47 * count
  pub each : (i : ℕ) → i < count → IsWritten (packed_at bytes i) (entry_in (packed_at bytes i))

-- The first so many entries of these bytes are each in their written form.
pub record AreFirst (bytes : List ℕ) (count : ℕ) : Type 0 where
  pub within : 47 * count ≤ length bytes
  pub each : (i : ℕ) → i < count → IsWritten (packed_at bytes i) (entry_in (packed_at bytes i))

-- The entries of an index that were read, and the bytes behind them.
pub record PartRead : Type 0 where
  pub read : List Entry
  pub ahead : List ℕ

-- The bytes are the written forms of these entries, one after the other.
pub record AreWritten (bytes : List ℕ) (entries : List Entry) : Type 0 where
  pub size : length bytes ≡ 47 * length entries
  pub each : (i : ℕ) (e : Entry) → slice_get entries i ≡ Some e → IsWritten (packed_at bytes i) e
