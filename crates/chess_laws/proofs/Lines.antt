-- The line between two squares: the one queen's step by which a walk may lead from one to the other.
use Rattle.chess_laws.proofs.Words.{◌≡◌, ◌↔◌, ℕ, zero, suc, ◌+◌, ◌*◌, ◌<◌, Bool, true, ◌&&◌, ◌||◌, not, Some, None, IsTrue, refl, subst, arith, Any, Decides-and, nat_tests, list_all, list_any, agree_below, agree_below_at, and_parts, Any-from_list_any, AllPass-from_list_all, Kind, King, Men, Offset, file_of, rank_of, Walk, Runs, line_of, glides, slides, offset_at, row_of, same_offset}
use Rattle.chess_laws.specs.LegalTests.{line}
use Rattle.chess_laws.proofs.Shifts.{shift-Some}
use Rattle.chess_laws.proofs.Walks.{same-offset}

-- so many equal steps lead from a to b
walk-strides : (men : Men) (o : Offset) (n a b : ℕ) → Walk men o n a b →
    (file_of b + suc n * o.left ≡ file_of a + suc n * o.right) × (rank_of b + suc n * o.down ≡ rank_of a + suc n * o.up)
walk-strides men o zero a b walk = let step = shift-Some o a b walk in (omega arith, omega arith)
walk-strides men o (suc n) a b (c, first, empty, walk) =
    let step = shift-Some o a c first in
    let rest = walk-strides men o n c b walk in
    (omega (arith, step.files, rest.0), omega (arith, step.ranks, rest.1))

-- a walk by a queen's step lies on the line of its ends
line-row : (row n fa ra fb rb : ℕ) → row < 8 → fb + suc n * (offset_at row).left ≡ fa + suc n * (offset_at row).right →
    rb + suc n * (offset_at row).down ≡ ra + suc n * (offset_at row).up → line_of fa ra fb rb ≡ Some row
line-row (suc (suc (suc (suc (suc (suc (suc (suc row)))))))) n fa ra fb rb less files ranks = absurd (omega arith)
line-row row n fa ra fb rb less files ranks = grind (arith, nat_tests)

pub line-walk : (men : Men) (row n a b : ℕ) → row < 8 → Walk men (offset_at row) n a b → line a b ≡ Some row
unfolding line
line-walk men row n a b less walk =
    let (files, ranks) = walk-strides men (offset_at row) n a b walk in
    line-row row n (file_of a) (rank_of a) (file_of b) (rank_of b) less files ranks

-- the steps by which a kind of man slides are those of the rows by which it does; by computing
has-row : (kind : Kind) → list_all (λ x. glides kind (row_of x) && same_offset x (offset_at (row_of x))) (slides kind) ≡ true
has-row King = refl
has-row k = refl

has-step : (kind : Kind) → agree_below (λ row. not (glides kind row) || list_any (same_offset (offset_at row)) (slides kind)) (λ row. true) 8 ≡ true
has-step King = refl
has-step k = refl

pub glides-less : (kind : Kind) (row : ℕ) → glides kind row ≡ true → row < 8
glides-less King row h = absurd (cc)
glides-less k row h = grind (arith, nat_tests)

-- what holds of some step of a kind of man holds of a row by which it slides
pub record Slide (kind : Kind) (P : Offset → Type 0) : Type 0 where
  pub row : ℕ
  pub glides : glides kind row ≡ true
  pub less : row < 8
  pub holds : P (offset_at row)

pub any-slide : (kind : Kind) (P : Offset → Type 0) → Any P (slides kind) → Slide kind P
any-slide k P (n, x, less, is, holds) =
    let here = AllPass-from_list_all (λ x. glides k (row_of x) && same_offset x (offset_at (row_of x))) (slides k) (has-row k) n x less in
    let (glides, same) = and_parts (glides k (row_of x)) (same_offset x (offset_at (row_of x))) (rw is at here) in
    record { row = row_of x; glides = glides; less = glides-less k (row_of x) glides; holds = subst P (same-offset x (offset_at (row_of x)) same) holds }

-- and the other way round
pub slide-any : (kind : Kind) (P : Offset → Type 0) (row : ℕ) → row < 8 → glides kind row ≡ true → P (offset_at row) → Any P (slides kind)
slide-any kind P row less is holds =
    let here = agree_below_at (λ row. not (glides kind row) || list_any (same_offset (offset_at row)) (slides kind)) (λ row. true) 8 row (has-step kind) less in
    let (k, x, within, at, same) = Any-from_list_any (same_offset (offset_at row)) (slides kind) (rw is at here) in
    (k, x, within, at, subst P (same-offset (offset_at row) x same) holds)

-- so a walk by a step of this kind of man is one by the line's step
pub runs_none : (men : Men) (kind : Kind) (a b : ℕ) → None ≡ line a b → Any (Runs men a b) (slides kind) → ⊥
runs_none men kind a b none any =
    let slide = any-slide kind (Runs men a b) any in
    let on = line-walk men slide.row slide.holds.0 a b slide.less slide.holds.1 in
    cc

pub runs_row : (men : Men) (kind : Kind) (row a b : ℕ) (test : Bool) → Some row ≡ line a b → row < 8 →
    (IsTrue test ↔ ((glides kind row ≡ true) × Runs men a b (offset_at row))) → IsTrue test ↔ Any (Runs men a b) (slides kind)
runs_row men kind row a b test some less both = (
  (λ h. slide-any kind (Runs men a b) row less (both.0 h).0 (both.0 h).1),
  (λ any.
      let slide = any-slide kind (Runs men a b) any in
      let on = line-walk men slide.row slide.holds.0 a b slide.less slide.holds.1 in
      let same : slide.row ≡ row = cc in
      both.1 (rw same at slide.glides, rw same at slide.holds)),
)
