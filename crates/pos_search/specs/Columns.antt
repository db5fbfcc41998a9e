-- The squares of sets by files, a bit a square. Only private functions cite this.
use Rattle.std.specs.Prelude.{ℕ, zero, suc, ◌+◌, ◌&&◌, ◌==◌, Bool}
use Rattle.std.specs.Int.{bit_at}
use Rattle.std.specs.List.{list_all, range_with_len}
use Rattle.chess_laws.specs.Geometry.{square}

-- How many squares of a set stand on a file, on its first so many ranks.
abbrev pub on_file : ℕ → ℕ → ℕ → ℕ
on_file set file zero = 0
on_file set file (suc rank) = on_file set file rank + bit_at set (square file rank)

-- Two sets have as many on a file.
abbrev pub same_number : ℕ → ℕ → ℕ → Bool
same_number a b file = on_file a file 8 == on_file b file 8

-- The same on a file and on the fourth behind it.
unfoldable pub same_pair : ℕ → ℕ → ℕ → Bool
same_pair a b file = same_number a b file && same_number a b (file + 4)

-- On the files of all four pairs, and on each file.
unfoldable pub same_pairs : ℕ → ℕ → Bool
same_pairs a b = list_all (same_pair a b) (range_with_len 0 4)

unfoldable pub same_numbers : ℕ → ℕ → Bool
same_numbers a b = list_all (same_number a b) (range_with_len 0 8)
