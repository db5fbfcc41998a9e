-- The table of ways says which step leads from one square towards another.
use Rattle.chess_laws.proofs.Words.{◌≡◌, ℕ, ◌<◌, ◌≤◌, true, List, Option, Some, None, refl, ap, arith, eqb-true, leb-true, nat_tests, is_row, way}
use Rattle.chess_laws.specs.LegalTests.{line}
use Rattle.chess_laws.specs.Ways.{names_lines}
use Rattle.chess_laws.proofs.Rows.{pair-at}

row-named : (table : List ℕ) (a b : ℕ) → names_lines table ≡ true → a < 64 → b < 64 → is_row (line a b) (way table a b) ≡ true
unfolding names_lines
row-named table a b all a_less b_less = pair-at (λ a b. is_row (line a b) (way table a b)) 64 64 a b all a_less b_less

row-some : (x : Option ℕ) (n : ℕ) → is_row x n ≡ true → n < 8 → Some n ≡ x
row-some None n h less = absurd (omega (arith, leb-true 8 n h))
row-some (Some row) n h less = ap Some (eqb-true n row h)

row-none : (x : Option ℕ) (n : ℕ) → is_row x n ≡ true → ((row : ℕ) → x ≡ Some row → row < 8) → 8 ≤ n → None ≡ x
row-none None n h less more = refl
row-none (Some row) n h less more = absurd (omega (arith, eqb-true n row h, less row refl))

-- a queen's step has one of the first eight rows
line-less : (a b row : ℕ) → line a b ≡ Some row → row < 8
unfolding line
line-less a b row h = grind (arith, nat_tests)

-- so the table tells the line between two squares
pub way-row : (table : List ℕ) (a b n : ℕ) → n ≡ way table a b → names_lines table ≡ true → a < 64 → b < 64 → n < 8 → Some n ≡ line a b
way-row table a b n is all a_less b_less less = row-some (line a b) n (rw is (row-named table a b all a_less b_less)) less

pub way-none : (table : List ℕ) (a b n : ℕ) → n ≡ way table a b → names_lines table ≡ true → a < 64 → b < 64 → 8 ≤ n → None ≡ line a b
way-none table a b n is all a_less b_less more =
    row-none (line a b) n (rw is (row-named table a b all a_less b_less)) (line-less a b) more
