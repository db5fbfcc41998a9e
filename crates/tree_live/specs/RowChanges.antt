-- The keys whose row is another in one list of rows than in the other (this project's own).
use Rattle.std.specs.Prelude.{ℕ, ◌==◌, ◌&&◌, if◌then◌else◌, Bool, false, List, [], ◌∷◌, ◌++◌, Option, Some, None, is_some, length}
use Rattle.cell_core.specs.declared.step.Move.{Move}
use Rattle.tree_rows.specs.declared.row.Row.{Row}
use Rattle.tree_rows.specs.Keys.{same_key}
use Rattle.tree_rows.specs.Rows.{row_at}

-- Whether two rows count the same games and have the same sums, and whether they are the same.
abbrev pub same_counts : Row → Row → Bool
same_counts a b = (a.games == b.games) && (a.white == b.white) && (a.draws == b.draws) && (a.black == b.black) && (a.unfinished == b.unfinished)

abbrev pub same_sums : Row → Row → Bool
same_sums a b =
    (a.mover_sum == b.mover_sum) && (a.mover_rated == b.mover_rated) && (a.other_sum == b.other_sum) && (a.other_rated == b.other_rated)
    && (a.year_sum == b.year_sum) && (a.dated == b.dated)

unfoldable pub same_row : Row → Row → Bool
same_row a b = same_key a.key b.key && same_counts a b && same_sums a b

-- Whether a row is the one that is found for its key.
abbrev pub is_found : Option Row → Row → Bool
is_found None row = false
is_found (Some other) row = same_row other row

-- The keys of those rows for whose key other rows have another one, or none.
abbrev pub keys_anew : List Row → List Row → List (Option Move)
keys_anew others [] = []
keys_anew others (row ∷ rows) = if is_found (row_at row.key others) row then keys_anew others rows else row.key ∷ keys_anew others rows

-- The keys of those rows for whose key other rows have none.
abbrev pub keys_alone : List Row → List Row → List (Option Move)
keys_alone others [] = []
keys_alone others (row ∷ rows) = if is_some (row_at row.key others) then keys_alone others rows else row.key ∷ keys_alone others rows

-- The keys that have another row before than after: those of rows that are gone, and those of rows that are new or others.
abbrev pub keys_changed : List Row → List Row → List (Option Move)
keys_changed before after = keys_alone after before ++ keys_anew before after

-- How many keys have another row before than after, where a row that comes and one that goes count too.
unfoldable pub rows_changed : List Row → List Row → ℕ
rows_changed before after = length (keys_changed before after)
