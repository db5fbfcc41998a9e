-- What a pass over the games of a filter asks of the games file (this project's own).
use Rattle.std.specs.Prelude.{ℕ, zero, suc, ◌+◌, List, length, Option, Some, None}
use Rattle.base_files.specs.declared.extent.Extent.{Extent}
use Rattle.sig_index.specs.Games.{extent_in}
use Rattle.book_pages.specs.Hits.{ply_in}

-- The length of the record of a game that is in.
abbrev pub len_if_in : Option ℕ → ℕ → ℕ
len_if_in (Some ply) len = len
len_if_in None len = 0

-- The lengths of the records of those of the first n games that are in, and of all that are.
abbrev pub price_below : List (Option ℕ) → List Extent → ℕ → ℕ
price_below plies extents zero = 0
price_below plies extents (suc n) = price_below plies extents n + len_if_in (ply_in plies n) (extent_in extents n).len

abbrev pub price : List (Option ℕ) → List Extent → ℕ
price plies extents = price_below plies extents (length plies)
