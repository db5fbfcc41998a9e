-- The steps of the loops that write a kind.
use Rattle.std.proofs.Common.{◌≡◌, ◌≤◌, ◌<◌, ◌+◌, ℕ, zero, suc, Bool, true, false, cond, eqb, List, [], ◌∷◌, ◌++◌, length, map, take, drop, get_or, refl, sym, ap, ◌∙◌, arith, append_assoc, slice_get, Option, Some, None, unwrap_or, Ordering, ◌^◌}
use Rattle.std.specs.List.{common_prefix_len, All, AllByRecursion}
use Rattle.std.specs.List.Sorted.{IsSorted, IsSortedByKey}
use Rattle.std.specs.declared.cmp.Ordering.TheVariants.{Less, Equal, Greater}
use Rattle.std.specs.Ordering.{nat_cmp, is_lt, ordering_then}
use Rattle.std.specs.Cmp.Lexicographic.{slice_cmp}
use Rattle.std.proofs.lemmas.List.{map-append, get_or-map, length-map, take-append-drop, length-drop}
use Rattle.std.proofs.lemmas.List.Sorted.{All-permutation}
use Rattle.std.proofs.lemmas.List.Elements.{All-from_recursion, recursion_from_All}
use Rattle.std.proofs.lemmas.Bool.{eqb-true}
use Rattle.std.proofs.lemmas.List.Sums.{common_prefix_len-le}
use Rattle.byteorder.specs.Endian.{big_bytes}
use Rattle.name_base.specs.declared.header.Shape.{Shape}
use Rattle.name_base.specs.declared.header.PerKind.{PerKind}
use Rattle.name_base.specs.declared.header.Header.{Header}
use Rattle.name_base.specs.NameLists.{AreNames, IsName}
use Rattle.name_base.specs.NamesFile.{id_width, frequency_width, name_after, shared_byte, stored_bytes, kind_bytes, magic, four_bytes, header_bytes}
use Rattle.name_base.specs.NamesText.{Row, rows_from, IsOrderOf, shared_len, stored_row, stored_rows, name_bytes, greatest_of, FitsShape}

-- Nothing is shared with nothing.
pub share_none : (xs ys : List ℕ) → length ys ≡ 0 → common_prefix_len eqb xs ys ≡ 0
share_none [] ys e = refl
share_none (x ∷ xs) [] e = refl
share_none (x ∷ xs) (y ∷ ys) e = absurd (omega arith)

-- The element at a place stands before those after it.
drop_next : {X : Type 0} (xs : List X) (i : ℕ) (x : X) → slice_get xs i ≡ Some x → drop i xs ≡ x ∷ drop (i + 1) xs
drop_next [] i x e = absurd cc
drop_next (y ∷ ys) zero x e = let same : y ≡ x = cc in ap (λ z. z ∷ ys) same
drop_next {X = X} (y ∷ ys) (suc i) x e = let n : suc (i + 1) ≡ suc i + 1 = omega arith in drop_next ys i x e ∙ ap (λ k. x ∷ drop k (y ∷ ys)) n

pub row_next : (id i : ℕ) (names : List (List ℕ)) (fs : List ℕ) (name : List ℕ) (f : ℕ) → slice_get names i ≡ Some name → slice_get fs i ≡ Some f
    → rows_from id (drop i names) (drop i fs) ≡ record { id = id; frequency = f; name = name } ∷ rows_from (id + 1) (drop (i + 1) names) (drop (i + 1) fs)
row_next id i names fs name f a b = λ k. rows_from id (drop_next names i name a k) (drop_next fs i f b k)

-- One more row.
pub rows_more : {X : Type 0} (view : X → Row) (rows after : List X) (x : X) (i : ℕ) (names : List (List ℕ)) (fs : List ℕ) (total : List Row)
    → after ≡ rows ++ x ∷ [] → slice_get names i ≡ Some ((view x).name) → slice_get fs i ≡ Some ((view x).frequency) → (view x).id ≡ i
    → map view rows ++ rows_from i (drop i names) (drop i fs) ≡ total → map view after ++ rows_from (i + 1) (drop (i + 1) names) (drop (i + 1) fs) ≡ total
rows_more view rows after x i names fs total is name f id so_far =
    let next : rows_from i (drop i names) (drop i fs) ≡ view x ∷ rows_from (i + 1) (drop (i + 1) names) (drop (i + 1) fs) =
    row_next i i names fs (view x).name (view x).frequency name f ∙ ap (λ n. record { id = n; frequency = (view x).frequency; name = (view x).name } ∷ rows_from (i + 1) (drop (i + 1) names) (drop (i + 1) fs)) (sym id) in
    ap (λ r. r ++ rows_from (i + 1) (drop (i + 1) names) (drop (i + 1) fs)) (ap (map view) is ∙ map-append view rows (x ∷ []))
    ∙ append_assoc (map view rows) (view x ∷ []) (rows_from (i + 1) (drop (i + 1) names) (drop (i + 1) fs))
    ∙ ap (λ r. map view rows ++ r) (sym next) ∙ so_far

first_not_less : (o p : Ordering) → is_lt (ordering_then o p) ≡ false → is_lt o ≡ false
first_not_less Less p e = e
first_not_less Equal p e = refl
first_not_less Greater p e = refl

-- Rows in an order that begins with the names are in the order of the names.
pub sorted_names : {X : Type 0} (view : X → Row) (cmp : X → X → Ordering) (then : X → X → Ordering) (xs : List X)
    → ((x y : X) → cmp x y ≡ ordering_then (slice_cmp nat_cmp (view x).name (view y).name) (then x y)) → IsSorted cmp xs → IsSortedByKey (λ r. r.name) (slice_cmp nat_cmp) (map view xs)
sorted_names view cmp then [] by_name sorted k d low high = absurd (omega arith)
sorted_names {X = X} view cmp then (x ∷ xs) by_name sorted k d low high =
    let long : k + 1 < length (x ∷ xs) = omega (arith, length-map (x ∷ xs) view) in
    let a : X = get_or (x ∷ xs) k x in
    let b : X = get_or (x ∷ xs) (k + 1) x in
    let named_a : get_or (map view (x ∷ xs)) k d ≡ view a = get_or-map view (x ∷ xs) k x d (omega arith) in
    let named_b : get_or (map view (x ∷ xs)) (k + 1) d ≡ view b = get_or-map view (x ∷ xs) (k + 1) x d long in
    (λ i. is_lt (slice_cmp nat_cmp (named_b i).name (named_a i).name))
    ∙ first_not_less (slice_cmp nat_cmp (view b).name (view a).name) (then b a) (sym (ap is_lt (by_name b a)) ∙ sorted k x low long)

-- ---- a row as it is stored.

shared_takes_both : (xs ys : List ℕ) → take (common_prefix_len eqb xs ys) xs ≡ take (common_prefix_len eqb xs ys) ys
shared_takes_both [] ys = refl
shared_takes_both (x ∷ xs) [] = refl
shared_takes_both (x ∷ xs) (y ∷ ys) = by (eqb x y) refl (shared_takes_both xs ys)
  where
    by : (b : Bool) → eqb x y ≡ b → take (common_prefix_len eqb xs ys) xs ≡ take (common_prefix_len eqb xs ys) ys
        → take (cond b (1 + common_prefix_len eqb xs ys) 0) (x ∷ xs) ≡ take (cond b (1 + common_prefix_len eqb xs ys) 0) (y ∷ ys)
    by true e rest =
        let n : 1 + common_prefix_len eqb xs ys ≡ suc (common_prefix_len eqb xs ys) = omega arith in
        ap (λ k. take k (x ∷ xs)) n ∙ (λ i. eqb-true x y e i ∷ rest i) ∙ ap (λ k. take k (y ∷ ys)) (sym n)
    by false e rest = refl

-- The prefix and the own bytes are the name again.
pub name_restored : (width : ℕ) (before : Option (List ℕ)) (r : Row) → name_after before (stored_row width before r) ≡ r.name
name_restored width None r = refl
name_restored width (Some before) r =
    ap (λ t. t ++ drop (common_prefix_len eqb before r.name) r.name) (shared_takes_both before r.name) ∙ take-append-drop (common_prefix_len eqb before r.name) r.name

pub shared_within : (before : Option (List ℕ)) (name : List ℕ) → (shared_len before name ≤ length name) × (shared_len before name ≤ length (unwrap_or before []))
shared_within None name = (omega arith, omega arith)
shared_within (Some before) name = let h = common_prefix_len-le eqb before name in (h.1, h.0)

-- A stored row: its id, its frequency and its name.
pub row_bytes : (shape : Shape) (before : Option (List ℕ)) (r : Row) (rest : List ℕ)
    → stored_bytes shape before (stored_row (frequency_width shape.greatest) before r) rest
    ≡ big_bytes (id_width shape.count) r.id ++ (big_bytes (frequency_width shape.greatest) r.frequency ++ name_bytes before r.name rest)
unfolding stored_bytes
row_bytes shape before r rest =
    let len : shared_len before r.name + length (drop (shared_len before r.name) r.name) ≡ length r.name = omega (arith, length-drop (shared_len before r.name) r.name, (shared_within before r.name).0) in
    ap (λ n. big_bytes (id_width shape.count) r.id ++ (big_bytes (frequency_width shape.greatest) r.frequency ++ (n ∷ (shared_byte before (shared_len before r.name) ++ (drop (shared_len before r.name) r.name ++ rest))))) len

-- A number after another, and then a name.
pub row_put : (old one two new : List ℕ) (shape : Shape) (before : Option (List ℕ)) (r : Row) → one ≡ old ++ big_bytes (id_width shape.count) r.id → two ≡ one ++ big_bytes (frequency_width shape.greatest) r.frequency
    → ((rest : List ℕ) → new ++ rest ≡ two ++ name_bytes before r.name rest)
    → (rest : List ℕ) → new ++ rest ≡ old ++ stored_bytes shape before (stored_row (frequency_width shape.greatest) before r) rest
row_put old one two new shape before r a b c rest =
    c rest
    ∙ ap (λ t. t ++ name_bytes before r.name rest) (b ∙ ap (λ t. t ++ big_bytes (frequency_width shape.greatest) r.frequency) a)
    ∙ append_assoc (old ++ big_bytes (id_width shape.count) r.id) (big_bytes (frequency_width shape.greatest) r.frequency) (name_bytes before r.name rest)
    ∙ append_assoc old (big_bytes (id_width shape.count) r.id) (big_bytes (frequency_width shape.greatest) r.frequency ++ name_bytes before r.name rest)
    ∙ ap (λ t. old ++ t) (sym (row_bytes shape before r rest))

-- One more row.
pub row_more : {X : Type 0} (view : X → Row) (rows : List X) (x : X) (i : ℕ) (shape : Shape) (before : Option (List ℕ)) (old new : List ℕ) (total : List ℕ → List ℕ)
    → slice_get rows i ≡ Some x
    → ((rest : List ℕ) → new ++ rest ≡ old ++ stored_bytes shape before (stored_row (frequency_width shape.greatest) before (view x)) rest)
    → ((rest : List ℕ) → old ++ kind_bytes shape before (stored_rows (frequency_width shape.greatest) before (map view (drop i rows))) rest ≡ total rest)
    → (rest : List ℕ) → new ++ kind_bytes shape (Some (view x).name) (stored_rows (frequency_width shape.greatest) (Some (view x).name) (map view (drop (i + 1) rows))) rest ≡ total rest
row_more view rows x i shape before old new total at put so_far rest =
    put (kind_bytes shape (Some (view x).name) (stored_rows (frequency_width shape.greatest) (Some (view x).name) (map view (drop (i + 1) rows))) rest)
    ∙ ap (λ name. old ++ stored_bytes shape before (stored_row (frequency_width shape.greatest) before (view x)) (kind_bytes shape (Some name) (stored_rows (frequency_width shape.greatest) (Some (view x).name) (map view (drop (i + 1) rows))) rest)) (sym (name_restored (frequency_width shape.greatest) before (view x)))
    ∙ ap (λ xs. old ++ kind_bytes shape before (stored_rows (frequency_width shape.greatest) before (map view xs)) rest) (sym (drop_next rows i x at))
    ∙ so_far rest

-- ---- one text after another.

pub put_after : (old text new rest : List ℕ) → new ≡ old ++ text → new ++ rest ≡ old ++ (text ++ rest)
put_after old text new rest is = ap (λ t. t ++ rest) is ∙ append_assoc old text rest

pub four_put : (old a b c d : List ℕ) (n : PerKind) → a ≡ old ++ big_bytes 3 n.players → b ≡ a ++ big_bytes 3 n.events → c ≡ b ++ big_bytes 3 n.sites → d ≡ c ++ big_bytes 3 n.rounds
    → (rest : List ℕ) → d ++ rest ≡ old ++ four_bytes n rest
unfolding four_bytes
four_put old a b c d n pa pb pc pd rest =
    put_after c (big_bytes 3 n.rounds) d rest pd
    ∙ put_after b (big_bytes 3 n.sites) c (big_bytes 3 n.rounds ++ rest) pc
    ∙ put_after a (big_bytes 3 n.events) b (big_bytes 3 n.sites ++ (big_bytes 3 n.rounds ++ rest)) pb
    ∙ put_after old (big_bytes 3 n.players) a (big_bytes 3 n.events ++ (big_bytes 3 n.sites ++ (big_bytes 3 n.rounds ++ rest))) pa

pub header_put : (old a b c d stamp : List ℕ) (h : Header) → a ≡ old ++ magic → b ≡ a ++ stamp → ((rest : List ℕ) → c ++ rest ≡ b ++ four_bytes h.counts rest) → ((rest : List ℕ) → d ++ rest ≡ c ++ four_bytes h.greatest rest)
    → (rest : List ℕ) → d ++ rest ≡ old ++ header_bytes stamp h rest
unfolding header_bytes
header_put old a b c d stamp h pa pb pc pd rest =
    pd rest ∙ pc (four_bytes h.greatest rest)
    ∙ put_after a stamp b (four_bytes h.counts (four_bytes h.greatest rest)) pb
    ∙ put_after old magic a (stamp ++ four_bytes h.counts (four_bytes h.greatest rest)) pa

-- ---- the fields hold the rows of a kind.

greatest_small_from : (fs : List ℕ) → AllByRecursion (λ n. n < 2 ^ 24) fs → greatest_of fs < 2 ^ 24
greatest_small_from [] h = omega arith
greatest_small_from (f ∷ fs) h = let rest = greatest_small_from fs h.1 in omega (arith, rest, h.0)

pub greatest_small : (fs : List ℕ) → All (λ n. n < 2 ^ 24) fs → greatest_of fs < 2 ^ 24
greatest_small fs h = greatest_small_from fs (recursion_from_All (λ n. n < 2 ^ 24) fs h)

pub rows_fit_from : (shape : Shape) (id : ℕ) (names : List (List ℕ)) (fs : List ℕ) → AllByRecursion IsName names → id + length names ≤ shape.count → greatest_of fs ≤ shape.greatest → AllByRecursion (FitsShape shape) (rows_from id names fs)
rows_fit_from shape id [] fs are within small = tt
rows_fit_from shape id (name ∷ names) [] are within small = tt
rows_fit_from shape id (name ∷ names) (f ∷ fs) are within small =
    (record { id = omega arith; frequency = omega arith; name = are.0.long }, rows_fit_from shape (id + 1) names fs are.1 (omega arith) (omega arith))

pub of_map : {X Y : Type 0} (view : X → Y) (P : Y → Type 0) (xs : List X) → AllByRecursion P (map view xs) → AllByRecursion (λ x. P (view x)) xs
of_map view P [] h = tt
of_map view P (x ∷ xs) h = (h.0, of_map view P xs h.1)

pub rows_fit : {X : Type 0} (view : X → Row) (limit : ℕ) (shape : Shape) (names : List (List ℕ)) (fs : List ℕ) (rows : List X) → AreNames limit names → shape ≡ record { count = length names; greatest = greatest_of fs }
    → IsOrderOf names fs (map view rows) → All (λ r. FitsShape shape (view r)) rows
rows_fit view limit shape names fs rows are is order =
    let count : length names ≤ shape.count = let e = ap (λ (s : Shape). s.count) is in omega (arith, e) in
    let small : greatest_of fs ≤ shape.greatest = let e = ap (λ (s : Shape). s.greatest) is in omega (arith, e) in
    let all : All (FitsShape shape) (rows_from 0 names fs) = All-from_recursion (FitsShape shape) (rows_from 0 names fs) (rows_fit_from shape 0 names fs are.each (omega (arith, count)) small) in
    All-from_recursion (λ r. FitsShape shape (view r)) rows (of_map view (FitsShape shape) rows (recursion_from_All (FitsShape shape) (map view rows) (All-permutation (FitsShape shape) (rows_from 0 names fs) (map view rows) order.same all)))
