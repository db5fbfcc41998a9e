-- What the search for twins asks of the games file (this project's own).
use Rattle.std.specs.Prelude.{ℕ, ◌&&◌, nat_le, not, Bool, List, count_by, filter, length, sum_by}
use Rattle.std.specs.List.{range_with_len}
use Rattle.base_files.specs.declared.extent.Extent.{Extent}
use Rattle.game_tree.specs.declared.head.Head.{Head}
use Rattle.sig_index.specs.Games.{extent_in, head_in}
use Rattle.twin_games.specs.Twins.{agrees}

-- How many undeleted games agree with a head.
abbrev pub agreeing : Head → List Head → ℕ
agreeing head heads = count_by (λ (other : Head). not other.deleted && agrees other head) heads

-- Game i is undeleted and agrees with an undeleted one beside itself.
abbrev pub is_shared : List Head → ℕ → Bool
is_shared heads i = not (head_in heads i).deleted && nat_le 2 (agreeing (head_in heads i) heads)

-- The lengths of the records of those among the first n games.
abbrev pub price_below : List Head → List Extent → ℕ → ℕ
price_below heads extents n = sum_by (λ (i : ℕ). (extent_in extents i).len) (filter (is_shared heads) (range_with_len 0 n))

-- And of those among all.
abbrev pub price : List Head → List Extent → ℕ
price heads extents = price_below heads extents (length heads)
