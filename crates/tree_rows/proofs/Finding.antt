-- Where a key stands among the rows of hits, whose keys rise.
use Rattle.std.proofs.Common.{◌≡◌, ℕ, zero, suc, ◌+◌, ◌<◌, ◌≤◌, Bool, true, false, cond, List, [], ◌∷◌, ◌++◌, Option, Some, None, Ordering, map, length, get_or, refl, sym, ap, subst, ◌∙◌, add-one, arith}
use Rattle.std.proofs.lemmas.Bool.{false≢true}
use Rattle.std.specs.List.{AllByRecursion}
use Rattle.std.specs.List.Sorted.{IsPartitionPoint, IsPartitionedBy}
use Rattle.std.specs.Ordering.{is_lt}
use Rattle.std.specs.declared.cmp.Ordering.TheVariants.{Less, Equal, Greater}
use Rattle.cell_core.specs.declared.step.Move.{Move}
use Rattle.tree_rows.specs.declared.hit.GameHit.{GameHit}
use Rattle.tree_rows.specs.declared.row.Row.{Row}
use Rattle.tree_rows.specs.Keys.{key_cmp}
use Rattle.tree_rows.specs.Keeping.{AreSums, added, has_key, no_hits, place_in}
use Rattle.tree_rows.specs.Rows.{keys_of, row_at, row_of, rows_of}
use Rattle.tree_rows.proofs.Adding.{Rises, added-rows, all-mapped, rises-more}
use Rattle.tree_rows.proofs.KeyLaws.{is-greater, is-less, key_total}
use Rattle.tree_rows.proofs.RowLaws.{row-key}

abbrev keys_in : List Row → List (Option Move)
keys_in rows = map (λ (row : Row). row.key) rows

-- ---- the keys of the rows of hits rise

keys-of : (hits : List GameHit) (keys : List (Option Move)) → keys_in (map (λ key. row_of key hits) keys) ≡ keys
keys-of hits [] = refl
keys-of hits (key ∷ keys) = let rest = keys-of hits keys in λ i. row-key key hits i ∷ rest i

rows-rise : (hits : List GameHit) → Rises (keys_in (rows_of hits))
unfolding rows_of keys_of
rows-rise hits = subst Rises (sym (keys-of hits (keys_of hits))) (rises-more hits [] tt)

rise : (rows : List Row) → AreSums rows → Rises (keys_in rows)
rise rows sums = subst (λ (l : List Row). Rises (keys_in l)) (sym sums.summed) (rows-rise sums.hits)

-- ---- the place of a key

abbrev pub stands_before : Option Move → Row → Bool
stands_before key row = is_lt (key_cmp row.key key)

less-is : (o : Ordering) → is_lt o ≡ true → o ≡ Less
less-is Less h = refl
less-is Equal h = absurd (false≢true h)
less-is Greater h = absurd (false≢true h)

later : (P : Option Move → Type 0) (rows : List Row) (j : ℕ) (d : Row) → AllByRecursion P (keys_in rows) → j < length rows → P (get_or rows j d).key
later P [] j d all lt = absurd (omega (arith, lt))
later P (row ∷ rows) zero d all lt = all.0
later P (row ∷ rows) (suc j) d all lt = later P rows j d all.1 (omega (arith, lt))

parted : (key : Option Move) (rows : List Row) → Rises (keys_in rows) → IsPartitionedBy (stands_before key) rows
parted key [] rises i j d le lt holds = absurd (omega (arith, lt))
parted key (row ∷ rows) rises zero zero d le lt holds = holds
parted key (row ∷ rows) rises zero (suc j) d le lt holds =
    let there : Row = get_or rows j d in
    let less : key_cmp row.key there.key ≡ Less = later (λ (k : Option Move). key_cmp row.key k ≡ Less) rows j d rises.0 (omega (arith, lt)) in
    ap is_lt (key_total.trans row.key there.key key less (less-is (key_cmp there.key key) holds))
parted key (row ∷ rows) rises (suc i) zero d le lt holds = absurd (omega (arith, le))
parted key (row ∷ rows) rises (suc i) (suc j) d le lt holds = parted key rows rises.1 i j d (omega (arith, le)) (omega (arith, lt)) holds

place-is : (key : Option Move) (rows : List Row) (n : ℕ) → n ≤ length rows
    → IsPartitionPoint (λ row. stands_before key row ≡ true) (λ row. stands_before key row ≡ false) rows n → n ≡ place_in rows key
place-is key [] n below point = omega (arith, below)
place-is key (row ∷ rows) zero below point =
    let here : stands_before key row ≡ false = point.1 0 row (omega arith) (omega arith) in
    rw here refl
place-is key (row ∷ rows) (suc n) below point =
    let here : stands_before key row ≡ true = point.0 0 row (omega arith) (omega arith) in
    let rest : n ≡ place_in rows key =
    place-is key rows n (omega (arith, below))
    (λ k d ge lt. point.0 (suc k) d (omega arith) (omega (arith, lt)), λ k d ge lt. point.1 (suc k) d (omega (arith, ge)) (omega (arith, lt))) in
    rw here (omega (arith, rest))

pub place-found : (key : Option Move) (rows : List Row) (n : ℕ) → AreSums rows → n ≤ length rows
    → (IsPartitionedBy (stands_before key) rows → IsPartitionPoint (λ row. stands_before key row ≡ true) (λ row. stands_before key row ≡ false) rows n)
    → n ≡ place_in rows key
place-found key rows n sums below point = place-is key rows n below (point (parted key rows (rise rows sums)))

-- ---- the row of a key

absent : (key : Option Move) (rows : List Row) → AllByRecursion (λ k. key_cmp key k ≡ Less) (keys_in rows) → row_at key rows ≡ None
absent key [] all = refl
absent key (row ∷ rows) all =
    let greater : key_cmp row.key key ≡ Greater = is-greater key row.key all.0 in
    rw greater (absent key rows all.1)

at-place : (key : Option Move) (rows : List Row) (d : Row) → Rises (keys_in rows)
    → row_at key rows ≡ cond (has_key rows (place_in rows key) key) (Some (get_or rows (place_in rows key) d)) None
at-place key [] d rises = refl
at-place key (row ∷ rows) d rises = by (key_cmp row.key key) refl (at-place key rows d rises.1)
  where
    by : (o : Ordering) → key_cmp row.key key ≡ o → row_at key rows ≡ cond (has_key rows (place_in rows key) key) (Some (get_or rows (place_in rows key) d)) None
        → row_at key (row ∷ rows) ≡ cond (has_key (row ∷ rows) (place_in (row ∷ rows) key) key) (Some (get_or (row ∷ rows) (place_in (row ∷ rows) key) d)) None
    by Less e rest = rw (e, add-one) rest
    by Equal e rest = rw (e, e) refl
    by Greater e rest =
        let less : key_cmp key row.key ≡ Less = is-less row.key key e in
        rw (e, e) (absent key rows (all-mapped (λ k. key_cmp row.key k ≡ Less) (λ k. key_cmp key k ≡ Less) (keys_in rows) (λ k f. key_total.trans key row.key k less f) rises.0))

pub found-row : (key : Option Move) (rows : List Row) (n : ℕ) (row : Row) → AreSums rows → n ≡ place_in rows key → true ≡ has_key rows n key → row ≡ get_or rows n row
    → Some row ≡ row_at key rows
found-row key rows n row sums is has at =
    let there : true ≡ has_key rows (place_in rows key) key = has ∙ ap (λ (k : ℕ). has_key rows k key) is in
    ap (λ (r : Row). Some r) (at ∙ ap (λ (k : ℕ). get_or rows k row) is)
    ∙ ap (λ (b : Bool). cond b (Some (get_or rows (place_in rows key) row)) None) there ∙ sym (at-place key rows row (rise rows sums))

pub found-none : (key : Option Move) (rows : List Row) (n : ℕ) → AreSums rows → n ≡ place_in rows key → false ≡ has_key rows n key → None ≡ row_at key rows
found-none key rows n sums is has =
    let d : Row = no_hits key in
    let there : false ≡ has_key rows (place_in rows key) key = has ∙ ap (λ (k : ℕ). has_key rows k key) is in
    ap (λ (b : Bool). cond b (Some (get_or rows (place_in rows key) d)) None) there ∙ sym (at-place key rows d (rise rows sums))

-- ---- one hit more

pub more-sums : (hit : GameHit) (rows after : List Row) → after ≡ added hit rows → AreSums rows → AreSums after
more-sums hit rows after grows sums = record { hits = sums.hits ++ hit ∷ []; summed = grows ∙ ap (added hit) sums.summed ∙ added-rows sums.hits hit }
