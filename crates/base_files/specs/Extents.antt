-- Where records stand in the games file (Scid's format si4).
use Rattle.std.specs.Prelude.{ℕ, ◌+◌, ◌≤◌, ◌%◌, List, take, drop}
use Rattle.base_files.specs.declared.extent.Extent.{Extent}

-- The length of a block of the games file.
abbrev pub block_len : ℕ
block_len = 131072

-- A record within the games file that crosses no end of a block.
pub record IsPlaced (games_len : ℕ) (extent : Extent) : Type 0 where
  pub in_block : extent.offset % block_len + extent.len ≤ block_len
  pub in_file : extent.offset + extent.len ≤ games_len

-- The bytes of a record in the games file.
abbrev pub record_in : List ℕ → Extent → List ℕ
record_in games extent = take extent.len (drop extent.offset games)
