-- Texts one behind the other, and the numbers of a line.
use Rattle.std.proofs.Common.{◌≡◌, ℕ, List, append_assoc, append-nil, refl, ap, ◌∙◌}
use Rattle.std.specs.Prelude.{sum_by}
use Rattle.tree_rows.specs.declared.row.Row.{Row}
use Rattle.tree_rows.specs.declared.numbers.Numbers.{Numbers}
use Rattle.tree_rows.specs.TreeText.{averages_text, counts_text, line_of}
use Rattle.tree_rows.specs.Numbers.{numbers_of, total_of}
use Rattle.tree_rows.specs.Keeping.{given_by}

pub ruleset text_rules = (append_assoc, append-nil)

-- The line of the numbers of a row is the line of the row, and that of their sums over all rows is the last one.
pub line_of_row : (name : List ℕ) (row : Row) → line_of name (given_by (numbers_of row)) ≡ line_of name (λ field. field row)
unfolding counts_text averages_text
line_of_row name row = refl

line_of_rows : (name : List ℕ) (rows : List Row) → line_of name (given_by (total_of rows)) ≡ line_of name (λ field. sum_by field rows)
unfolding counts_text averages_text total_of
line_of_rows name rows = refl

pub line_of_sums : (name : List ℕ) (n : Numbers) (rows : List Row) → n ≡ total_of rows → line_of name (given_by n) ≡ line_of name (λ field. sum_by field rows)
line_of_sums name n rows is = ap (λ (m : Numbers). line_of name (given_by m)) is ∙ line_of_rows name rows
