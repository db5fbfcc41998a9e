-- Names that change places until each is at the place of its id.
use Rattle.std.proofs.Common.{◌≡◌, ◌≢◌, ◌⊎◌, inl, inr, ◌≤◌, ◌<◌, ◌+◌, ◌-◌, ℕ, zero, suc, Bool, true, false, eqb, if◌then◌else◌, List, [], ◌∷◌, length, map, get_or, set, Some, unwrap_or, refl, sym, ap, subst, ◌∙◌, arith, slice_get, true≢false}
use Rattle.std.specs.Prelude.{swap}
use Rattle.std.specs.List.{zip, AllByRecursion, IsDistinct}
use Rattle.std.specs.Option.{option_map}
use Rattle.std.proofs.lemmas.Bool.{cases_eq, cases_lt, eq-eqb, eqb-true}
use Rattle.std.proofs.lemmas.List.{length-set, length-map, same_lists, get_or-set_same, get_or-set_other}
use Rattle.std.proofs.lemmas.List.Edits.{length-swap, swap_is}
use Rattle.std.proofs.lemmas.Map.Keys.{apart_from_distinct}
use Rattle.std.proofs.lemmas.Option.{slice_get-map, slice_get-get_or, unwrap_or-slice_get}
use Rattle.name_base.specs.NamesFile.{Entry}
use Rattle.name_base.specs.KindRead.{AreMet}
use Rattle.name_base.specs.Reading.{by_id}
use Rattle.name_base.proofs.ByIdLemmas.{by_id-Arranges, ids_of, slice_get-set_same, slice_get-set_other}
use Rattle.name_base.proofs.PartLemmas.{length-by_id}

-- ---- two that change places.

no-eqb : (a b : ℕ) → a ≢ b → eqb a b ≡ false
no-eqb a b ne = by (eqb a b) refl
  where
    by : (t : Bool) → eqb a b ≡ t → t ≡ false
    by true e = absurd (ne (eqb-true a b e))
    by false e = refl

-- The place that what now stands at i had before.
abbrev exchanged : ℕ → ℕ → ℕ → ℕ
exchanged a b i = if eqb i b then a else if eqb i a then b else i

exchanged-right : (a b : ℕ) → exchanged a b b ≡ a
exchanged-right a b = ap (λ t. if t then a else if eqb b a then b else b) (eq-eqb b b refl)

exchanged-left : (a b : ℕ) → a ≢ b → exchanged a b a ≡ b
exchanged-left a b ne = ap (λ t. if t then a else if eqb a a then b else a) (no-eqb a b ne) ∙ ap (λ t. if t then b else a) (eq-eqb a a refl)

exchanged-other : (a b i : ℕ) → i ≢ a → i ≢ b → exchanged a b i ≡ i
exchanged-other a b i na nb = ap (λ t. if t then a else if eqb i a then b else i) (no-eqb i b nb) ∙ ap (λ t. if t then b else i) (no-eqb i a na)

exchanged-within : (n a b i : ℕ) → a < n → b < n → i < n → exchanged a b i < n
exchanged-within n a b i la lb li = by (eqb i b) (eqb i a)
  where
    by : (s t : Bool) → (if s then a else if t then b else i) < n
    by true t = la
    by false true = lb
    by false false = li

exchanged-back : (a b : ℕ) → a ≢ b → (i : ℕ) → exchanged a b (exchanged a b i) ≡ i
exchanged-back a b ne i = by (cases_eq i a) (cases_eq i b)
  where
    by : (i ≡ a) ⊎ (i ≢ a) → (i ≡ b) ⊎ (i ≢ b) → exchanged a b (exchanged a b i) ≡ i
    by (inl at) other = ap (λ k. exchanged a b (exchanged a b k)) at ∙ ap (exchanged a b) (exchanged-left a b ne) ∙ exchanged-right a b ∙ sym at
    by (inr na) (inl at) = ap (λ k. exchanged a b (exchanged a b k)) at ∙ ap (exchanged a b) (exchanged-right a b) ∙ exchanged-left a b ne ∙ sym at
    by (inr na) (inr nb) = ap (exchanged a b) (exchanged-other a b i na nb) ∙ exchanged-other a b i na nb

module _ {X : Type 0} where
  swap-at : (xs : List X) (a b i : ℕ) → a < length xs → b < length xs → i < length xs → a ≢ b → slice_get (swap xs a b) i ≡ slice_get xs (exchanged a b i)
  swap-at [] a b i la lb li ne = absurd (omega (arith, la))
  swap-at (d ∷ ys) a b i la lb li ne = ap (λ l. slice_get l i) (sym (swap_is xs a b d la lb)) ∙ by (cases_eq i a) (cases_eq i b)
    where
      xs : List X
      xs = d ∷ ys

      once : List X
      once = set xs a (get_or xs b d)

      long : length once ≡ length xs
      long = length-set xs a (get_or xs b d)

      by : (i ≡ a) ⊎ (i ≢ a) → (i ≡ b) ⊎ (i ≢ b) → slice_get (set once b (get_or xs a d)) i ≡ slice_get xs (exchanged a b i)
      by (inl at) other =
          ap (slice_get (set once b (get_or xs a d))) at ∙ slice_get-set_other once b a (get_or xs a d) ne ∙ slice_get-set_same xs a (get_or xs b d) la
          ∙ sym (ap (λ k. slice_get xs (exchanged a b k)) at ∙ ap (slice_get xs) (exchanged-left a b ne) ∙ slice_get-get_or xs b d lb)
      by (inr na) (inl at) =
          ap (slice_get (set once b (get_or xs a d))) at ∙ slice_get-set_same once b (get_or xs a d) (omega (arith, lb, long))
          ∙ sym (ap (λ k. slice_get xs (exchanged a b k)) at ∙ ap (slice_get xs) (exchanged-right a b) ∙ slice_get-get_or xs a d la)
      by (inr na) (inr nb) =
          slice_get-set_other once b i (get_or xs a d) nb ∙ slice_get-set_other xs a i (get_or xs b d) na
          ∙ sym (ap (slice_get xs) (exchanged-other a b i na nb))

number-at : (xs : List ℕ) (a b i : ℕ) → a < length xs → b < length xs → i < length xs → a ≢ b → get_or (swap xs a b) i 0 ≡ get_or xs (exchanged a b i) 0
number-at xs a b i la lb li ne =
    sym (unwrap_or-slice_get (swap xs a b) i 0) ∙ ap (λ o. unwrap_or o 0) (swap-at xs a b i la lb li ne) ∙ unwrap_or-slice_get xs (exchanged a b i) 0

-- ---- how many are not at their places.

-- 1 for a number that is not this place.
abbrev stray : ℕ → ℕ → ℕ
stray k x = if eqb k x then 0 else 1

-- How many numbers are not their own places, which are counted from k on.
abbrev pub strays : ℕ → List ℕ → ℕ
strays k [] = 0
strays k (x ∷ xs) = stray k x + strays (suc k) xs

stray-few : (k x : ℕ) → stray k x ≤ 1
stray-few k x = by (eqb k x)
  where
    by : (t : Bool) → (if t then 0 else 1) ≤ 1
    by true = omega arith
    by false = omega arith

stray-none : (k : ℕ) → stray k k ≡ 0
stray-none k = ap (λ t. if t then 0 else 1) (eq-eqb k k refl)

stray-one : (k x : ℕ) → k ≢ x → stray k x ≡ 1
stray-one k x ne = ap (λ t. if t then 0 else 1) (no-eqb k x ne)

strays-set : (k : ℕ) (xs : List ℕ) (i v : ℕ) → i < length xs → strays k (set xs i v) + stray (k + i) (get_or xs i 0) ≡ strays k xs + stray (k + i) v
strays-set k [] i v lt = absurd (omega (arith, lt))
strays-set k (x ∷ xs) zero v lt =
    let here : k + 0 ≡ k = omega arith in
    let a : stray (k + 0) x ≡ stray k x = ap (λ n. stray n x) here in
    let b : stray (k + 0) v ≡ stray k v = ap (λ n. stray n v) here in
    let same : (stray k v + strays (suc k) xs) + stray (k + 0) x ≡ (stray k x + strays (suc k) xs) + stray (k + 0) v = omega (arith, a, b) in
    same
strays-set k (x ∷ xs) (suc i) v lt =
    let next : k + suc i ≡ suc k + i = omega arith in
    let a : stray (k + suc i) (get_or xs i 0) ≡ stray (suc k + i) (get_or xs i 0) = ap (λ n. stray n (get_or xs i 0)) next in
    let b : stray (k + suc i) v ≡ stray (suc k + i) v = ap (λ n. stray n v) next in
    let rest = strays-set (suc k) xs i v (omega (arith, lt)) in
    let same : (stray k x + strays (suc k) (set xs i v)) + stray (k + suc i) (get_or xs i 0) ≡ (stray k x + strays (suc k) xs) + stray (k + suc i) v = omega (arith, a, b, rest) in
    same

-- A number that comes to its place leaves fewer.
strays-swap : (xs : List ℕ) (a b : ℕ) → a < length xs → b < length xs → a ≢ b → get_or xs a 0 ≡ b → get_or xs b 0 ≢ b → strays 0 (swap xs a b) < strays 0 xs
strays-swap xs a b la lb ne is other =
    let once : List ℕ = set xs a (get_or xs b 0) in
    let first = strays-set 0 xs a (get_or xs b 0) la in
    let second = strays-set 0 once b (get_or xs a 0) (omega (arith, lb, length-set xs a (get_or xs b 0))) in
    let from_a : 0 + a ≡ a = omega arith in
    let from_b : 0 + b ≡ b = omega arith in
    let a_old : stray (0 + a) (get_or xs a 0) ≡ 1 = (λ i. stray (from_a i) (is i)) ∙ stray-one a b ne in
    let b_old : stray (0 + b) (get_or once b 0) ≡ 1 = (λ i. stray (from_b i) (get_or-set_other xs a b (get_or xs b 0) 0 (λ e. ne (sym e)) i)) ∙ stray-one b (get_or xs b 0) (λ e. other (sym e)) in
    let b_new : stray (0 + b) (get_or xs a 0) ≡ 0 = (λ i. stray (from_b i) (is i)) ∙ stray-none b in
    let same : strays 0 (swap xs a b) ≡ strays 0 (set once b (get_or xs a 0)) = ap (strays 0) (sym (swap_is xs a b 0 la lb)) in
    omega (arith, first, second, a_old, b_old, b_new, same, stray-few (0 + a) (get_or xs b 0))

-- ---- names beside their ids.

module _ {X : Type 0} (f : X → List ℕ) where
  abbrev entry : X × ℕ → Entry
  entry p = record { id = p.1; name = f p.0 }

  ids_zip : (ks : List X) (ids : List ℕ) → length ids ≡ length ks → ids_of (map entry (zip ks ids)) ≡ ids
  ids_zip [] [] long = refl
  ids_zip [] (i ∷ ids) long = absurd (omega (arith, long))
  ids_zip (k ∷ ks) [] long = absurd (omega (arith, long))
  ids_zip (k ∷ ks) (i ∷ ids) long = ap (λ is. i ∷ is) (ids_zip ks ids (omega (arith, long)))

  all_below : (ks : List X) (ids : List ℕ) (n : ℕ) → length ids ≡ length ks → AllByRecursion (λ e. e.id < n) (map entry (zip ks ids)) → (i : ℕ) → i < length ids → get_or ids i 0 < n
  all_below ks [] n long h i lt = absurd (omega (arith, lt))
  all_below [] (v ∷ ids) n long h i lt = absurd (omega (arith, long))
  all_below (k ∷ ks) (v ∷ ids) n long h zero lt = h.0
  all_below (k ∷ ks) (v ∷ ids) n long h (suc i) lt = all_below ks ids n (omega (arith, long)) h.1 i (omega (arith, lt))

  all_named : (ks : List X) (ids : List ℕ) (total : List (List ℕ)) → length ids ≡ length ks → AllByRecursion (λ e. slice_get total e.id ≡ Some e.name) (map entry (zip ks ids)) → (i : ℕ) → i < length ids → slice_get total (get_or ids i 0) ≡ slice_get (map f ks) i
  all_named ks [] total long h i lt = absurd (omega (arith, lt))
  all_named [] (v ∷ ids) total long h i lt = absurd (omega (arith, long))
  all_named (k ∷ ks) (v ∷ ids) total long h zero lt = h.0
  all_named (k ∷ ks) (v ∷ ids) total long h (suc i) lt = all_named ks ids total (omega (arith, long)) h.1 i (omega (arith, lt))

  pub length_met : (ks : List X) (ids : List ℕ) → length ids ≡ length ks → length (map entry (zip ks ids)) ≡ length ids
  length_met ks ids long = sym (length-map (map entry (zip ks ids)) (λ e. e.id)) ∙ ap length (ids_zip ks ids long)

  module _ (keys : List X) (ids : List ℕ) where
    -- The names by id.
    abbrev placed_names : List (List ℕ)
    placed_names = by_id (length ids) (map entry (zip keys ids))

    -- The names and their ids are those of the beginning in another order, and the first ones are at their places.
    pub record ArePlaced (now : List X) (at : List ℕ) (place : ℕ) : Type 0 where
      pub long : length at ≡ length now
      pub count : length at ≡ length ids
      pub below : (i : ℕ) → i < length at → get_or at i 0 < length at
      pub apart : (i j : ℕ) → i < length at → j < length at → get_or at i 0 ≡ get_or at j 0 → i ≡ j
      pub named : (i : ℕ) → i < length at → slice_get placed_names (get_or at i 0) ≡ slice_get (map f now) i
      pub done : (i : ℕ) → i < place → get_or at i 0 ≡ i
      pub within : place ≤ length at

    -- At the beginning.
    pub ArePlaced-first : length ids ≡ length keys → AreMet (length ids) (map entry (zip keys ids)) → ArePlaced keys ids 0
    ArePlaced-first long are = record {
      long = long;
      count = refl;
      below = all_below keys ids (length ids) long are.below;
      apart = λ i j li lj same. by i j li lj same (cases_lt i j) (cases_lt j i);
      named = all_named keys ids placed_names long (by_id-Arranges (length ids) (map entry (zip keys ids)) are (length_met keys ids long)).placed;
      done = λ i lt. absurd (omega (arith, lt));
      within = omega arith;
    }
      where
        distinct : IsDistinct eqb ids
        distinct = subst (IsDistinct eqb) (ids_zip keys ids long) are.ids

        differ : (i j : ℕ) → i < j → j < length ids → get_or ids i 0 ≡ get_or ids j 0 → ⊥
        differ i j lt lj same = true≢false (sym (eq-eqb (get_or ids i 0) (get_or ids j 0) same) ∙ apart_from_distinct eqb ids i j 0 distinct lt lj)

        by : (i j : ℕ) → i < length ids → j < length ids → get_or ids i 0 ≡ get_or ids j 0 → (i < j) ⊎ (j ≤ i) → (j < i) ⊎ (i ≤ j) → i ≡ j
        by i j li lj same (inl lt) other = absurd (differ i j lt lj same)
        by i j li lj same (inr le) (inl lt) = absurd (differ j i lt li (sym same))
        by i j li lj same (inr le) (inr ge) = omega (arith, le, ge)

    module _ (now : List X) (at : List ℕ) (place : ℕ) (are : ArePlaced now at place) (lt : place < length at) where
      -- A name that is at its place.
      pub ArePlaced-next : get_or at place 0 ≡ place → ArePlaced now at (place + 1)
      ArePlaced-next here = record {
        long = are.long;
        count = are.count;
        below = are.below;
        apart = are.apart;
        named = are.named;
        done = λ i less. by i less (cases_eq i place);
        within = omega (arith, lt);
      }
        where
          by : (i : ℕ) → i < place + 1 → (i ≡ place) ⊎ (i ≢ place) → get_or at i 0 ≡ i
          by i less (inl same) = ap (λ k. get_or at k 0) same ∙ here ∙ sym same
          by i less (inr other) = are.done i (omega (arith, less, other))

      module _ (id : ℕ) (is : get_or at place 0 ≡ id) (other : place ≢ id) where
        id_below : id < length at
        id_below = subst (λ n. n < length at) is (are.below place lt)

        -- No other name has this id.
        stands_elsewhere : get_or at id 0 ≢ id
        stands_elsewhere e = other (are.apart place id lt id_below (is ∙ sym e))

        -- A name comes to its place.
        pub ArePlaced-swap : (after : List X) (ids_after : List ℕ) → after ≡ swap now place id → ids_after ≡ swap at place id → ArePlaced after ids_after place
        ArePlaced-swap after ids_after names_swapped ids_swapped = record {
          long = long_at ∙ are.long ∙ sym (ap length names_swapped ∙ length-swap now place id);
          count = long_at ∙ are.count;
          below = λ i less. subst (λ n. get_or ids_after i 0 < n) (sym long_at) (subst (λ n. n < length at) (sym (number i (old i less))) (are.below (exchanged place id i) (from i (old i less))));
          apart = λ i j li lj same. back i j (are.apart (exchanged place id i) (exchanged place id j) (from i (old i li)) (from j (old j lj)) (sym (number i (old i li)) ∙ same ∙ number j (old j lj)));
          named = λ i less. ap (slice_get placed_names) (number i (old i less)) ∙ are.named (exchanged place id i) (from i (old i less)) ∙ sym (name i (old i less));
          done = λ i less. number i (omega (arith, less, lt)) ∙ ap (λ k. get_or at k 0) (exchanged-other place id i (λ e. omega (arith, e, less)) (λ e. other (settled i less e))) ∙ are.done i less;
          within = omega (arith, long_at, are.within);
        }
          where
            long_at : length ids_after ≡ length at
            long_at = ap length ids_swapped ∙ length-swap at place id

            old : (i : ℕ) → i < length ids_after → i < length at
            old i less = omega (arith, less, long_at)

            from : (i : ℕ) → i < length at → exchanged place id i < length at
            from i less = exchanged-within (length at) place id i lt id_below less

            number : (i : ℕ) → i < length at → get_or ids_after i 0 ≡ get_or at (exchanged place id i) 0
            number i less = ap (λ l. get_or l i 0) ids_swapped ∙ number-at at place id i lt id_below less other

            name : (i : ℕ) → i < length at → slice_get (map f after) i ≡ slice_get (map f now) (exchanged place id i)
            name i less =
                ap (λ l. slice_get (map f l) i) names_swapped ∙ slice_get-map f (swap now place id) i
                ∙ ap (option_map f) (swap-at now place id i (omega (arith, lt, are.long)) (omega (arith, id_below, are.long)) (omega (arith, less, are.long)) other)
                ∙ sym (slice_get-map f now (exchanged place id i))

            back : (i j : ℕ) → exchanged place id i ≡ exchanged place id j → i ≡ j
            back i j same = sym (exchanged-back place id other i) ∙ ap (exchanged place id) same ∙ exchanged-back place id other j

            -- A place before this one has its own name, which is not this one's.
            settled : (i : ℕ) → i < place → i ≡ id → place ≡ id
            settled i less e = are.apart place id lt id_below (is ∙ sym (ap (λ k. get_or at k 0) (sym e) ∙ are.done i less ∙ e))

        pub fewer_strays : (ids_after : List ℕ) → ids_after ≡ swap at place id → strays 0 ids_after + (length ids_after - place) < strays 0 at + (length at - place)
        fewer_strays ids_after swapped =
            let less = strays-swap at place id lt id_below other is stands_elsewhere in
            omega (arith, less, ap (strays 0) swapped, ap length swapped, length-swap at place id)

    -- At the end.
    pub all_placed : (now : List X) (at : List ℕ) (place : ℕ) → ArePlaced now at place → length at ≤ place → map f now ≡ placed_names
    all_placed now at place are le = same_lists (map f now) placed_names long each
      where
        here : length (map f now) ≡ length at
        here = length-map now f ∙ sym are.long

        long : length (map f now) ≡ length placed_names
        long = here ∙ are.count ∙ sym (length-by_id (length ids) (map entry (zip keys ids)))

        each : (k : ℕ) (d : List ℕ) → k < length (map f now) → get_or (map f now) k d ≡ get_or placed_names k d
        each k d less =
            let within : k < length at = omega (arith, less, here) in
            let same : slice_get placed_names k ≡ slice_get (map f now) k = sym (ap (slice_get placed_names) (are.done k (omega (arith, within, le)))) ∙ are.named k within in
            sym (unwrap_or-slice_get (map f now) k d) ∙ ap (λ o. unwrap_or o d) (sym same) ∙ unwrap_or-slice_get placed_names k d
