-- A walk read from its end: the same squares by the steps back.
use Rattle.chess_laws.proofs.Words.{◌≡◌, ℕ, zero, suc, ◌<◌, Bool, true, List, subst, Some, None, sym, Any, list_all, list_any, Decides-and, Decides-eqb, Any-from_list_any, Men, man_at, Offset, shift, Leaps, Walk, Runs, same_offset, AllPass-from_list_all}
use Rattle.chess_laws.proofs.Shifts.{shift-Some, shift-Differ}

-- the step back
abbrev pub reversed : Offset → Offset
reversed o = record { right = o.left; left = o.right; up = o.down; down = o.up }

-- a step and its step back
pub back : (o : Offset) (a b : ℕ) → a < 64 → shift o a ≡ Some b → shift (reversed o) b ≡ Some a
back o a b less h =
    let d = shift-Some o a b h in
    shift-Differ (reversed o) b a (record { files = sym d.files; ranks = sym d.ranks; on_board = less })

pub shift-on_board : (o : Offset) (a b : ℕ) → shift o a ≡ Some b → b < 64
shift-on_board o a b h = (shift-Some o a b h).on_board

-- one more step at the end of a walk
walk-snoc : (men : Men) (o : Offset) (n a c b : ℕ) → Walk men o n a c → man_at men c ≡ None → shift o c ≡ Some b → Walk men o (suc n) a b
walk-snoc men o zero a c b w e s = (c, w, e, s)
walk-snoc men o (suc n) a c b (d, f, g, w) e s = (d, f, g, walk-snoc men o n d c b w e s)

-- a walk from its end
pub walk-back : (men : Men) (o : Offset) (n a b : ℕ) → a < 64 → Walk men o n a b → Walk men (reversed o) n b a
walk-back men o zero a b less w = back o a b less w
walk-back men o (suc n) a b less (c, f, e, w) =
    walk-snoc men (reversed o) n b c a (walk-back men o n c b (shift-on_board o a c f) w) e (back o a c less f)

-- each of these steps has its step back among those
pub same-offset : (a b : Offset) → same_offset a b ≡ true → a ≡ b
same-offset a b h =
    let same = (Decides-and _ _ (Decides-and _ _ (Decides-eqb a.right b.right) (Decides-eqb a.left b.left))
    (Decides-and _ _ (Decides-eqb a.up b.up) (Decides-eqb a.down b.down))).0 h in
    λ i. record { right = same.0.0 i; left = same.0.1 i; up = same.1.0 i; down = same.1.1 i }

abbrev pub turns : List Offset → List Offset → Bool
turns xs ys = list_all (λ o. list_any (same_offset (reversed o)) ys) xs

turned : (P Q : Offset → Type 0) (xs ys : List Offset) → turns xs ys ≡ true → ((o : Offset) → P o → Q (reversed o)) → Any P xs → Any Q ys
turned P Q xs ys each turn (k, x, less, at, p) =
    let there = AllPass-from_list_all (λ o. list_any (same_offset (reversed o)) ys) xs each k x less in
    let (j, y, within, stands, same) = Any-from_list_any (same_offset (reversed x)) ys (rw at at there) in
    (j, y, within, stands, subst Q (same-offset (reversed x) y same) (turn x p))

pub leaps-turned : (xs ys : List Offset) → turns xs ys ≡ true → (a b : ℕ) → a < 64 → Any (Leaps a b) xs → Any (Leaps b a) ys
leaps-turned xs ys each a b less any = turned (Leaps a b) (Leaps b a) xs ys each (λ o h. back o a b less h) any

pub runs-turned : (men : Men) (xs ys : List Offset) → turns xs ys ≡ true → (a b : ℕ) → a < 64 → Any (Runs men a b) xs → Any (Runs men b a) ys
runs-turned men xs ys each a b less any = turned (Runs men a b) (Runs men b a) xs ys each (λ o h. (h.0, walk-back men o h.0 a b less h.1)) any
