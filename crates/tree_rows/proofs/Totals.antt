-- The sums over rows, row by row.
use Rattle.std.proofs.Common.{◌≡◌, ℕ, ◌+◌, ◌<◌, List, [], length, take, get_or, refl, sym, ap, ◌∙◌}
use Rattle.std.proofs.lemmas.List.Sums.{sum_by_more}
use Rattle.tree_rows.specs.declared.row.Row.{Row}
use Rattle.tree_rows.specs.declared.numbers.Numbers.{Numbers}
use Rattle.tree_rows.specs.Numbers.{total_of}
use Rattle.tree_rows.specs.Keeping.{plus}

total-more : (rows : List Row) (i : ℕ) (d : Row) → i < length rows → total_of (take (i + 1) rows) ≡ plus (total_of (take i rows)) (get_or rows i d)
unfolding total_of plus
total-more rows i d below = λ j. record {
  games = sum_by_more (λ row. row.games) rows i d below j;
  white = sum_by_more (λ row. row.white) rows i d below j;
  draws = sum_by_more (λ row. row.draws) rows i d below j;
  black = sum_by_more (λ row. row.black) rows i d below j;
  unfinished = sum_by_more (λ row. row.unfinished) rows i d below j;
  mover_sum = sum_by_more (λ row. row.mover_sum) rows i d below j;
  mover_rated = sum_by_more (λ row. row.mover_rated) rows i d below j;
  other_sum = sum_by_more (λ row. row.other_sum) rows i d below j;
  other_rated = sum_by_more (λ row. row.other_rated) rows i d below j;
  year_sum = sum_by_more (λ row. row.year_sum) rows i d below j;
  dated = sum_by_more (λ row. row.dated) rows i d below j;
}

pub total_step : (rows : List Row) (i : ℕ) (row : Row) (total after : Numbers) → i < length rows → row ≡ get_or rows i row → total ≡ total_of (take i rows)
    → after ≡ plus total row → after ≡ total_of (take (i + 1) rows)
total_step rows i row total after below is so_far grows =
    grows ∙ ap (λ (n : Numbers). plus n row) so_far ∙ ap (plus (total_of (take i rows))) is ∙ sym (total-more rows i row below)

pub total-none : total_of [] ≡ record { games = 0; white = 0; draws = 0; black = 0; unfinished = 0; mover_sum = 0; mover_rated = 0; other_sum = 0; other_rated = 0; year_sum = 0; dated = 0 }
unfolding total_of
total-none = refl
