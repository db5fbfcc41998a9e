-- Rows that are the same for each key have the same text, in whatever order they stand.
use Rattle.std.proofs.Common.{◌≡◌, ℕ, ◌<◌, ◌==◌, ◌&&◌, ◌||◌, not, nat_lt, Bool, true, false, cond, List, [], ◌∷◌, ◌++◌, Option, Some, None, Ordering, codes, refl, sym, ap, ◌∙◌, subst, arith}
use Rattle.std.specs.List.{AllByRecursion, flat_map, fold, sum_by}
use Rattle.std.specs.declared.cmp.Ordering.TheVariants.{Less, Equal, Greater}
use Rattle.std.specs.Ordering.{is_eq, is_lt}
use Rattle.std.proofs.lemmas.Bool.{and_parts, eqb-true, false≢true, ltb-false, ltb-true, lt-ltb}
use Rattle.std.proofs.lemmas.List.Sums.{sum_by-append, sum_by-cons}
use Rattle.cell_core.specs.declared.man.Colour.{Colour}
use Rattle.cell_core.specs.declared.step.Move.{Move}
use Rattle.cell_core.specs.Board.{Men}
use Rattle.tree_rows.specs.declared.hit.GameHit.{GameHit}
use Rattle.tree_rows.specs.declared.row.Row.{Row}
use Rattle.tree_rows.specs.Keys.{key_cmp, same_key}
use Rattle.tree_rows.specs.Rows.{KeysDiffer, row_at, rows_of}
use Rattle.tree_rows.specs.TreeText.{in_order, line_of, row_before, row_line, tree_text, with_row}
use Rattle.tree_rows.proofs.KeyLaws.{is-less, key_total, one-key, told-apart}
use Rattle.tree_rows.proofs.OneRow.{keys-differ}

-- ---- a row among others

same-itself : (key : Option Move) → same_key key key ≡ true
same-itself key = (told-apart key key).1 refl

differ-back : (a b : Option Move) → same_key a b ≡ false → same_key b a ≡ false
differ-back a b e = by (same_key b a) refl
  where
    by : (t : Bool) → same_key b a ≡ t → same_key b a ≡ false
    by false s = s
    by true s = absurd (false≢true (sym e ∙ (told-apart a b).1 (sym (one-key b a s))))

passed : (row : Row) (rows : List Row) (key : Option Move) → same_key row.key key ≡ false → row_at key (row ∷ rows) ≡ row_at key rows
passed row rows key other = rw other refl

met : (row : Row) (rows : List Row) (key : Option Move) → same_key row.key key ≡ true → row_at key (row ∷ rows) ≡ Some row
met row rows key own = rw own refl

-- Where the row of a key stands, with none of the key before it.
record Stands (key : Option Move) (row : Row) (rows : List Row) : Type 0 where
  front : List Row
  back : List Row
  is : rows ≡ front ++ row ∷ back
  none : AllByRecursion (λ (other : Row). same_key other.key key ≡ false) front

stands : (key : Option Move) (row : Row) (rows : List Row) → row_at key rows ≡ Some row → Stands key row rows
stands key row [] e = absurd (cc)
stands key row (x ∷ rows) e = by (same_key x.key key) refl e (stands key row rows)
  where
    by : (t : Bool) → same_key x.key key ≡ t → cond t (Some x) (row_at key rows) ≡ Some row → (row_at key rows ≡ Some row → Stands key row rows) → Stands key row (x ∷ rows)
    by true s e later = record { front = []; back = rows; is = (let same : x ≡ row = cc in ap (λ (r : Row). r ∷ rows) same); none = tt }
    by false s e later =
        let rest = later e in
        record { front = x ∷ rest.front; back = rest.back; is = ap (λ (l : List Row). x ∷ l) rest.is; none = (s, rest.none) }

-- The other rows, without one of them.
without : (front : List Row) (row : Row) (back : List Row) (key : Option Move) → same_key row.key key ≡ false → row_at key (front ++ row ∷ back) ≡ row_at key (front ++ back)
without [] row back key other = passed row back key other
without (x ∷ front) row back key other = ap (λ (o : Option Row). cond (same_key x.key key) (Some x) o) (without front row back key other)

absent : (front : List Row) (row : Row) (back : List Row) (key : Option Move) → row_at key (front ++ row ∷ back) ≡ None → (row_at key (front ++ back) ≡ None) × (same_key row.key key ≡ false)
absent [] row back key e = by (same_key row.key key) refl e
  where
    by : (t : Bool) → same_key row.key key ≡ t → cond t (Some row) (row_at key back) ≡ None → (row_at key back ≡ None) × (same_key row.key key ≡ false)
    by true s e = absurd (cc)
    by false s e = (e, s)
absent (x ∷ front) row back key e = by (same_key x.key key) refl e (absent front row back key)
  where
    by : (t : Bool) → same_key x.key key ≡ t → cond t (Some x) (row_at key (front ++ row ∷ back)) ≡ None
        → (row_at key (front ++ row ∷ back) ≡ None → (row_at key (front ++ back) ≡ None) × (same_key row.key key ≡ false))
        → (row_at key (x ∷ front ++ back) ≡ None) × (same_key row.key key ≡ false)
    by true s e later = absurd (cc)
    by false s e later = let rest = later e in (passed x (front ++ back) key s ∙ rest.0, rest.1)

differ-without : (front : List Row) (row : Row) (back : List Row) → KeysDiffer (front ++ row ∷ back) → KeysDiffer (front ++ back) × (row_at row.key (front ++ back) ≡ None)
differ-without [] row back differ = (differ.1, differ.0)
differ-without (x ∷ front) row back differ =
    let rest = differ-without front row back differ.1 in
    let none = absent front row back x.key differ.0 in
    ((none.0, rest.0), passed x (front ++ back) row.key (differ-back row.key x.key none.1) ∙ rest.1)

-- ---- the same rows in another order

abbrev Shuffled : List Row → List Row → Type 0
Shuffled [] other = other ≡ []
Shuffled (row ∷ rows) other =
    (front : List Row) × ((back : List Row) × ((other ≡ front ++ row ∷ back) × (AllByRecursion (λ (first : Row). same_key first.key row.key ≡ false) front × Shuffled rows (front ++ back))))

shuffled : (rows other : List Row) → KeysDiffer rows → KeysDiffer other → ((key : Option Move) → row_at key rows ≡ row_at key other) → Shuffled rows other
shuffled [] [] differ differs same = refl
shuffled [] (x ∷ other) differ differs same =
    let found : row_at x.key (x ∷ other) ≡ Some x = met x other x.key (same-itself x.key) in
    let none : row_at x.key (x ∷ other) ≡ None = sym (same x.key) in
    absurd (cc)
shuffled (row ∷ rows) other differ differs same =
    let at = stands row.key row other (sym (same row.key) ∙ met row rows row.key (same-itself row.key)) in
    let less = differ-without at.front row at.back (subst KeysDiffer at.is differs) in
    (at.front, (at.back, (at.is, (at.none, shuffled rows (at.front ++ at.back) differ.1 less.0 (rest at.front at.back at.is less.1)))))
  where
    rest : (front back : List Row) → other ≡ front ++ row ∷ back → row_at row.key (front ++ back) ≡ None → (key : Option Move) → row_at key rows ≡ row_at key (front ++ back)
    rest front back is none key = by (same_key row.key key) refl
      where
        by : (t : Bool) → same_key row.key key ≡ t → row_at key rows ≡ row_at key (front ++ back)
        by true s = let one : row.key ≡ key = one-key row.key key s in
            ap (λ (k : Option Move). row_at k rows) (sym one) ∙ differ.0 ∙ sym none ∙ ap (λ (k : Option Move). row_at k (front ++ back)) one
        by false s = sym (passed row rows key s) ∙ same key ∙ ap (row_at key) is ∙ without front row back key s

-- ---- sums

sum-shuffled : (number : Row → ℕ) (rows other : List Row) → Shuffled rows other → sum_by number rows ≡ sum_by number other
sum-shuffled number [] other is = ap (sum_by number) (sym is)
sum-shuffled number (row ∷ rows) other (front, (back, (is, (none, rest)))) =
    omega (
      arith,
      sum_by-cons number row rows,
      sum-shuffled number rows (front ++ back) rest,
      ap (sum_by number) is,
      sum_by-append number front (row ∷ back),
      sum_by-cons number row back,
      sum_by-append number front back,
    )

-- ---- the order

-- A row that stands before another: more games, or as many and a lesser key.
before-games : (a b : Row) → b.games < a.games → row_before a b ≡ true
before-games a b lt = rw (lt-ltb b.games a.games lt) refl

before-keys : (a b : Row) → a.games ≡ b.games → key_cmp a.key b.key ≡ Less → row_before a b ≡ true
before-keys a b same less = by (nat_lt b.games a.games)
  where
    tie : ((a.games == b.games) && is_lt (key_cmp a.key b.key)) ≡ true
    tie = let games : (a.games == b.games) ≡ true = grind (arith, same) in (λ i. games i && is_lt (less i))

    by : (t : Bool) → (t || ((a.games == b.games) && is_lt (key_cmp a.key b.key))) ≡ true
    by true = refl
    by false = tie

data Before (a b : Row) : Type 0 where
  by_games : b.games < a.games → Before a b
  by_keys : a.games ≡ b.games → key_cmp a.key b.key ≡ Less → Before a b

is-lt : (o : Ordering) → is_lt o ≡ true → o ≡ Less
is-lt Less h = refl
is-lt Equal h = absurd (false≢true h)
is-lt Greater h = absurd (false≢true h)

before : (a b : Row) → row_before a b ≡ true → Before a b
before a b h = by (nat_lt b.games a.games) refl h
  where
    by : (t : Bool) → nat_lt b.games a.games ≡ t → (t || ((a.games == b.games) && is_lt (key_cmp a.key b.key))) ≡ true → Before a b
    by true e h = by_games (ltb-true b.games a.games e)
    by false e h =
        let parts = and_parts (a.games == b.games) (is_lt (key_cmp a.key b.key)) h in
        by_keys (eqb-true a.games b.games parts.0) (is-lt (key_cmp a.key b.key) parts.1)

-- Where one does not stand before another, it has fewer games, or as many and no lesser key.
data Behind (a b : Row) : Type 0 where
  fewer_games : a.games < b.games → Behind a b
  as_many : a.games ≡ b.games → (key_cmp a.key b.key ≡ Less → ⊥) → Behind a b

behind : (a b : Row) → row_before a b ≡ false → Behind a b
behind a b h = by (nat_lt b.games a.games) refl (nat_lt a.games b.games) refl
  where
    by : (t : Bool) → nat_lt b.games a.games ≡ t → (u : Bool) → nat_lt a.games b.games ≡ u → Behind a b
    by true e u f = absurd (false≢true (sym h ∙ before-games a b (ltb-true b.games a.games e)))
    by false e true f = fewer_games (ltb-true a.games b.games f)
    by false e false f =
        let same : a.games ≡ b.games = omega (arith, ltb-false b.games a.games e, ltb-false a.games b.games f) in
        as_many same (λ less. false≢true (sym h ∙ before-keys a b same less))

-- A row behind another that stands before a third: the third stands behind the first one.
chain : (f x y : Row) → row_before f x ≡ true → row_before f y ≡ false → row_before y x ≡ true
chain f x y h g = by (before f x h) (behind f y g)
  where
    keys : key_cmp f.key x.key ≡ Less → (key_cmp f.key y.key ≡ Less → ⊥) → key_cmp y.key x.key ≡ Less
    keys less not_less = of (key_cmp f.key y.key) refl
      where
        of : (o : Ordering) → key_cmp f.key y.key ≡ o → key_cmp y.key x.key ≡ Less
        of Less e = absurd (not_less e)
        of Equal e = ap (λ (k : Option Move). key_cmp k x.key) (sym (one-key f.key y.key (ap is_eq e))) ∙ less
        of Greater e = key_total.trans y.key f.key x.key (is-less f.key y.key e) less

    by : Before f x → Behind f y → row_before y x ≡ true
    by (by_games more) (fewer_games few) = before-games y x (omega (arith, more, few))
    by (by_games more) (as_many same not_less) = before-games y x (omega (arith, more, same))
    by (by_keys same less) (fewer_games few) = before-games y x (omega (arith, same, few))
    by (by_keys same less) (as_many equal not_less) = before-keys y x (sym equal ∙ same) (keys less not_less)

opposite : (x y : Row) → same_key x.key y.key ≡ false → row_before y x ≡ not (row_before x y)
opposite x y differ = by (row_before x y) refl
  where
    never : Before x y → Before y x → ⊥
    never (by_games more) (by_games less) = absurd (omega (arith, more, less))
    never (by_games more) (by_keys same less) = absurd (omega (arith, more, same))
    never (by_keys same less) (by_games more) = absurd (omega (arith, more, same))
    never (by_keys same less) (by_keys equal lesser) =
        let itself = key_total.trans x.key y.key x.key less lesser in
        absurd (false≢true (sym (ap is_eq itself) ∙ same-itself x.key))

    some : Behind x y → row_before y x ≡ true
    some (fewer_games few) = before-games y x few
    some (as_many same not_less) = before-keys y x (sym same) (of (key_cmp x.key y.key) refl)
      where
        of : (o : Ordering) → key_cmp x.key y.key ≡ o → key_cmp y.key x.key ≡ Less
        of Less e = absurd (not_less e)
        of Equal e = absurd (false≢true (sym differ ∙ ap is_eq e))
        of Greater e = is-less x.key y.key e

    by : (t : Bool) → row_before x y ≡ t → row_before y x ≡ not t
    by false e = some (behind x y e)
    by true e = other (row_before y x) refl
      where
        other : (u : Bool) → row_before y x ≡ u → row_before y x ≡ false
        other false f = f
        other true f = absurd (never (before x y e) (before y x f))

-- ---- rows in order

stays : (first : Row) (rows : List Row) (row : Row) → row_before first row ≡ true → with_row (first ∷ rows) row ≡ first ∷ with_row rows row
stays first rows row h = rw h refl

goes : (first : Row) (rows : List Row) (row : Row) → row_before first row ≡ false → with_row (first ∷ rows) row ≡ row ∷ first ∷ rows
goes first rows row h = rw h refl

two : (x y : Row) (rows : List Row) → same_key x.key y.key ≡ false
    → cond (row_before x y) (x ∷ y ∷ rows) (y ∷ x ∷ rows) ≡ cond (row_before y x) (y ∷ x ∷ rows) (x ∷ y ∷ rows)
two x y rows differ = by (row_before x y) (row_before y x) (opposite x y differ)
  where
    by : (t u : Bool) → u ≡ not t → cond t (x ∷ y ∷ rows) (y ∷ x ∷ rows) ≡ cond u (y ∷ x ∷ rows) (x ∷ y ∷ rows)
    by true true e = absurd (cc)
    by true false e = refl
    by false true e = refl
    by false false e = absurd (cc)

commute : (rows : List Row) (x y : Row) → same_key x.key y.key ≡ false → with_row (with_row rows x) y ≡ with_row (with_row rows y) x
commute [] x y differ = two x y [] differ
commute (f ∷ rows) x y differ = by (commute rows x y differ) (row_before f x) refl (row_before f y) refl
  where
    -- x behind f, and y before it
    parted : (x y : Row) → row_before f x ≡ true → row_before f y ≡ false → with_row (with_row (f ∷ rows) x) y ≡ with_row (with_row (f ∷ rows) y) x
    parted x y e g =
        ap (λ (l : List Row). with_row l y) (stays f rows x e) ∙ goes f (with_row rows x) y g
        ∙ sym (ap (λ (l : List Row). with_row l x) (goes f rows y g) ∙ stays y (f ∷ rows) x (chain f x y e g) ∙ ap (λ (l : List Row). y ∷ l) (stays f rows x e))

    by : with_row (with_row rows x) y ≡ with_row (with_row rows y) x → (t : Bool) → row_before f x ≡ t → (u : Bool) → row_before f y ≡ u
        → with_row (with_row (f ∷ rows) x) y ≡ with_row (with_row (f ∷ rows) y) x
    by rest true e true g =
        ap (λ (l : List Row). with_row l y) (stays f rows x e) ∙ stays f (with_row rows x) y g ∙ ap (λ (l : List Row). f ∷ l) rest
        ∙ sym (ap (λ (l : List Row). with_row l x) (stays f rows y g) ∙ stays f (with_row rows y) x e)
    by rest true e false g = parted x y e g
    by rest false e true g = sym (parted y x g e)
    by rest false e false g =
        ap (λ (l : List Row). with_row l y) (goes f rows x e) ∙ ap (λ (l : List Row). cond (row_before x y) (x ∷ l) (y ∷ x ∷ f ∷ rows)) (goes f rows y g)
        ∙ two x y (f ∷ rows) differ
        ∙ sym (ap (λ (l : List Row). with_row l x) (goes f rows y g) ∙ ap (λ (l : List Row). cond (row_before y x) (y ∷ l) (x ∷ y ∷ f ∷ rows)) (goes f rows x e))

-- A row that comes behind some others comes as well before them.
sooner : (front : List Row) (row : Row) (back sorted : List Row) → AllByRecursion (λ (first : Row). same_key first.key row.key ≡ false) front
    → fold with_row sorted (front ++ row ∷ back) ≡ fold with_row (with_row sorted row) (front ++ back)
sooner [] row back sorted none = refl
sooner (x ∷ front) row back sorted none =
    sooner front row back (with_row sorted x) none.1 ∙ ap (λ (l : List Row). fold with_row l (front ++ back)) (commute sorted x row none.0)

order-shuffled : (rows other sorted : List Row) → Shuffled rows other → fold with_row sorted rows ≡ fold with_row sorted other
order-shuffled [] other sorted is = ap (fold with_row sorted) (sym is)
order-shuffled (row ∷ rows) other sorted (front, (back, (is, (none, rest)))) =
    order-shuffled rows (front ++ back) (with_row sorted row) rest ∙ sym (ap (fold with_row sorted) is ∙ sooner front row back sorted none)

pub same-text : (men : Men) (side : Colour) (rows : List Row) (hits : List GameHit) → KeysDiffer rows → ((key : Option Move) → row_at key rows ≡ row_at key (rows_of hits))
    → tree_text men side rows ≡ tree_text men side (rows_of hits)
unfolding tree_text in_order
same-text men side rows hits differ same =
    let is = shuffled rows (rows_of hits) differ (keys-differ hits) same in
    λ i. flat_map (row_line men side) (order-shuffled rows (rows_of hits) [] is i) ++ line_of (codes "total") (λ (field : Row → ℕ). sum-shuffled field rows (rows_of hits) is i)
