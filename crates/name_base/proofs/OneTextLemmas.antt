-- There is one written form: the rows of a kind have one order.
use Rattle.std.proofs.Common.{◌≡◌, ◌⊎◌, inl, inr, ◌<◌, ◌+◌, ℕ, false, List, [], ◌∷◌, length, map, get_or, Ordering, refl, sym, ap, subst, ◌∙◌, arith, true≢false}
use Rattle.std.specs.declared.cmp.Ordering.TheVariants.{Less, Equal, Greater}
use Rattle.std.specs.List.{AllByRecursion, IsDistinct}
use Rattle.std.specs.List.Sorted.{IsPermutation, IsSortedByKey, IsStrictlySortedBy}
use Rattle.std.specs.Str.{bytes_eq}
use Rattle.std.specs.Ordering.{nat_cmp, is_lt, is_eq, ordering_reverse}
use Rattle.std.specs.Cmp.Lexicographic.{slice_cmp}
use Rattle.std.proofs.lemmas.Cmp.{nat_list_cmp_total}
use Rattle.std.proofs.lemmas.Map.Text.{is_eq-slice_cmp}
use Rattle.std.proofs.lemmas.Map.Keys.{apart_from_distinct, sorted_from_all_adjacent, IsDistinct-IsPermutation}
use Rattle.std.proofs.lemmas.List.{length-map, get_or-map}
use Rattle.std.proofs.lemmas.List.Sorted.{IsPermutation-map, IsPermutation-sym, IsPermutation-trans}
use Rattle.name_base.specs.NameLists.{NameLists, AreNames, AreSound}
use Rattle.name_base.specs.NamesFile.{header_bytes, player_shape, event_shape, site_shape, round_shape}
use Rattle.name_base.specs.NamesText.{Row, rows_from, IsOrderOf, AreFrequencies, Frequencies, header_of, rows_bytes, IsNamesText}
use Rattle.name_base.proofs.NameLemmas.{bytes_equiv}
use Rattle.name_base.proofs.TextLemmas.{of_map}
use Rattle.name_base.proofs.AgainLemmas.{names_from, permuted}

abbrev cmp : List ℕ → List ℕ → Ordering
cmp a b = slice_cmp nat_cmp a b

-- An element of a list.
abbrev In : {X : Type 0} → X → List X → Type 0
In x [] = ⊥
In x (y ∷ ys) = (x ≡ y) ⊎ In x ys

each_in : {X : Type 0} (front xs : List X) → ((x : X) → In x xs → In x front) → AllByRecursion (λ x. In x front) xs
each_in front [] h = tt
each_in front (x ∷ xs) h = (h x (inl refl), each_in front xs (λ y i. h y (inr i)))

all_in : {X : Type 0} (P : X → Type 0) (xs : List X) (x : X) → AllByRecursion P xs → In x xs → P x
all_in P [] x h i = absurd i
all_in P (y ∷ ys) x h (inl same) = subst P (sym same) h.0
all_in P (y ∷ ys) x h (inr i) = all_in P ys x h.1 i

-- Rows whose names rise.
abbrev Rises : List Row → Type 0
Rises [] = Unit {0}
Rises (r ∷ rows) = AllByRecursion (λ q. cmp r.name q.name ≡ Less) rows × Rises rows

never_less : (a : List ℕ) → cmp a a ≡ Less → ⊥
never_less a e = (let flip : Less ≡ Greater = sym e ∙ nat_list_cmp_total.antisymm a a ∙ ap ordering_reverse e in cc)

never_both : (a b : List ℕ) → cmp a b ≡ Less → cmp b a ≡ Less → ⊥
never_both a b e f = never_less a (nat_list_cmp_total.trans a b a e f)

not_first : (r z : Row) (zs : List Row) → (r ≡ z → ⊥) → In r (z ∷ zs) → In r zs
not_first r z zs ne (inl e) = absurd (ne e)
not_first r z zs ne (inr i) = i

same_first : (x y : Row) (xs ys : List Row) → AllByRecursion (λ q. cmp x.name q.name ≡ Less) xs → AllByRecursion (λ q. cmp y.name q.name ≡ Less) ys → In x (y ∷ ys) → In y (x ∷ xs) → x ≡ y
same_first x y xs ys rx ry (inl e) i = e
same_first x y xs ys rx ry (inr i) (inl e) = sym e
same_first x y xs ys rx ry (inr i) (inr j) = absurd (never_both x.name y.name (all_in (λ q. cmp x.name q.name ≡ Less) xs y rx j) (all_in (λ q. cmp y.name q.name ≡ Less) ys x ry i))

-- Two lists that rise and have the same rows are one.
one_list : (xs ys : List Row) → Rises xs → Rises ys → ((r : Row) → In r xs → In r ys) → ((r : Row) → In r ys → In r xs) → xs ≡ ys
one_list [] [] rx ry f g = refl
one_list [] (y ∷ ys) rx ry f g = absurd (g y (inl refl))
one_list (x ∷ xs) [] rx ry f g = absurd (f x (inl refl))
one_list (x ∷ xs) (y ∷ ys) rx ry f g =
    let same : x ≡ y = same_first x y xs ys rx.0 ry.0 (f x (inl refl)) (g y (inl refl)) in
    let others = one_list xs ys rx.1 ry.1
    (λ r i. not_first r y ys (λ e. never_less r.name (subst (λ (q : Row). cmp q.name r.name ≡ Less) (same ∙ sym e) (all_in (λ q. cmp x.name q.name ≡ Less) xs r rx.0 i))) (f r (inr i)))
    (λ r i. not_first r x xs (λ e. never_less r.name (subst (λ (q : Row). cmp q.name r.name ≡ Less) (sym same ∙ sym e) (all_in (λ q. cmp y.name q.name ≡ Less) ys r ry.0 i))) (g r (inr i))) in
    λ i. same i ∷ others i

-- Names that do not fall and differ rise.
less_from : (a b : List ℕ) → is_lt (cmp b a) ≡ false → bytes_eq a b ≡ false → cmp a b ≡ Less
less_from a b up apart = by (cmp b a) refl
  where
    by : (o : Ordering) → cmp b a ≡ o → cmp a b ≡ Less
    by Less e = absurd (true≢false (sym (ap is_lt e) ∙ up))
    by Equal e =
        let level : cmp a b ≡ Equal = nat_list_cmp_total.antisymm a b ∙ ap ordering_reverse e in
        absurd (true≢false (sym (ap is_eq level) ∙ is_eq-slice_cmp a b ∙ apart))
    by Greater e = nat_list_cmp_total.antisymm a b ∙ ap ordering_reverse e

names_rise : (rows : List Row) → IsSortedByKey (λ r. r.name) (slice_cmp nat_cmp) rows → IsDistinct bytes_eq (map (λ r. r.name) rows) → IsStrictlySortedBy (slice_cmp nat_cmp) (map (λ r. r.name) rows)
names_rise rows sorted once = sorted_from_all_adjacent nat_list_cmp_total (map (λ r. r.name) rows) [] step
  where
    none : Row
    none = record { id = 0; frequency = 0; name = [] }

    step : (k : ℕ) → k + 1 < length (map (λ r. r.name) rows) → cmp (get_or (map (λ r. r.name) rows) k []) (get_or (map (λ r. r.name) rows) (k + 1) []) ≡ Less
    step k lt =
        let long : k + 1 < length rows = omega (arith, length-map rows (λ r. r.name)) in
        let a = get_or-map (λ r. r.name) rows k none [] (omega arith) in
        let b = get_or-map (λ r. r.name) rows (k + 1) none [] long in
        less_from (get_or (map (λ r. r.name) rows) k []) (get_or (map (λ r. r.name) rows) (k + 1) [])
        ((λ i. is_lt (cmp (b i) (a i))) ∙ sorted k none (omega arith) long)
        (apart_from_distinct bytes_eq (map (λ r. r.name) rows) k (k + 1) [] once (omega arith) lt)

rises_from : (rows : List Row) → IsStrictlySortedBy (slice_cmp nat_cmp) (map (λ r. r.name) rows) → Rises rows
unfolding IsStrictlySortedBy
rises_from [] h = tt
rises_from (r ∷ rows) h = (of_map (λ r. r.name) (λ name. cmp r.name name ≡ Less) rows h.0, rises_from rows h.1)

within : (rows xs ys : List Row) → IsPermutation rows xs → IsPermutation rows ys → (r : Row) → In r xs → In r ys
within rows xs ys px py r i =
    all_in (λ q. In q ys) xs r (permuted (λ q. In q ys) ys xs (IsPermutation-trans ys rows xs (IsPermutation-sym rows ys py) px) (each_in ys ys (λ q j. j))) i

one_order : (limit : ℕ) (names : List (List ℕ)) (fs : List ℕ) (xs ys : List Row) → AreNames limit names → AreFrequencies names fs → IsOrderOf names fs xs → IsOrderOf names fs ys → xs ≡ ys
one_order limit names fs xs ys are frequencies ox oy =
    let once : IsDistinct bytes_eq (map (λ r. r.name) (rows_from 0 names fs)) = subst (IsDistinct bytes_eq) (sym (names_from 0 names fs frequencies.count)) are.once in
    let once_x = IsDistinct-IsPermutation bytes_eq bytes_equiv.symm (map (λ r. r.name) (rows_from 0 names fs)) (map (λ r. r.name) xs) (IsPermutation-map (λ r. r.name) (rows_from 0 names fs) xs ox.same) once in
    let once_y = IsDistinct-IsPermutation bytes_eq bytes_equiv.symm (map (λ r. r.name) (rows_from 0 names fs)) (map (λ r. r.name) ys) (IsPermutation-map (λ r. r.name) (rows_from 0 names fs) ys oy.same) once in
    one_list xs ys (rises_from xs (names_rise xs ox.sorted once_x)) (rises_from ys (names_rise ys oy.sorted once_y))
    (within (rows_from 0 names fs) xs ys ox.same oy.same) (within (rows_from 0 names fs) ys xs oy.same ox.same)

-- Two written forms of the same lists are one.
pub one_text : (lists : NameLists) (f : Frequencies) (a b : List ℕ) → AreSound lists → AreFrequencies lists.players f.players → AreFrequencies lists.events f.events → AreFrequencies lists.sites f.sites → AreFrequencies lists.rounds f.rounds
    → IsNamesText lists f a → IsNamesText lists f b → a ≡ b
one_text lists f a b sound fp fe fs fr ta tb =
    let players = one_order 1048576 lists.players f.players ta.players tb.players sound.players fp ta.player_order tb.player_order in
    let events = one_order 524288 lists.events f.events ta.events tb.events sound.events fe ta.event_order tb.event_order in
    let sites = one_order 524288 lists.sites f.sites ta.sites tb.sites sound.sites fs ta.site_order tb.site_order in
    let rounds = one_order 262144 lists.rounds f.rounds ta.rounds tb.rounds sound.rounds fr ta.round_order tb.round_order in
    ta.text
    ∙ (λ i. header_bytes (0 ∷ 0 ∷ 0 ∷ 0 ∷ []) (header_of lists f)
    (rows_bytes (player_shape (header_of lists f)) (players i) (rows_bytes (event_shape (header_of lists f)) (events i)
    (rows_bytes (site_shape (header_of lists f)) (sites i) (rows_bytes (round_shape (header_of lists f)) (rounds i) [])))))
    ∙ sym tb.text
