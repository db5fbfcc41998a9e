-- Entries put in the order of their ids: each id and each name once gives each name once, in one order.
use Rattle.std.proofs.Common.{◌≡◌, ◌≢◌, ◌⊎◌, inl, inr, ◌≤◌, ◌<◌, ℕ, zero, suc, Bool, true, false, eqb, ◌||◌, List, [], ◌∷◌, ◌++◌, length, map, get_or, set, replicate, Option, Some, refl, sym, ap, subst, ◌∙◌, arith, slice_get, true≢false}
use Rattle.std.specs.Prelude.{IfSome}
use Rattle.std.specs.List.{list_any, AllByRecursion, IsDistinct}
use Rattle.std.specs.Option.{option_map, option_map_or}
use Rattle.std.specs.Str.{bytes_eq}
use Rattle.std.specs.Cmp.{IsEquivalence}
use Rattle.std.proofs.lemmas.Bool.{cases_eq, cases_lt, eqb-true, eq-eqb}
use Rattle.std.proofs.lemmas.List.{length-map, length-set, length-replicate, same_lists}
use Rattle.std.proofs.lemmas.Option.{slice_get-map, get_or_from_slice_get, slice_get_within}
use Rattle.std.proofs.lemmas.Map.Keys.{IsDistinct-cons, IsDistinct-head, IsDistinct-tail, apart_from_distinct, IsDistinct-from_apart}
use Rattle.std.proofs.lemmas.Map.Steps.{length-le_from_distinct_below}
use Rattle.name_base.specs.NameLists.{AreNames, IsName}
use Rattle.name_base.specs.NamesFile.{Entry, Arranges}
use Rattle.name_base.specs.Reading.{has_id, names_of, put_names, by_id}
use Rattle.name_base.specs.KindRead.{AreMet}
use Rattle.name_base.proofs.NameLemmas.{list_any-map, bytes_equiv}

abbrev pub ids_of : List Entry → List ℕ
ids_of es = map (λ e. e.id) es

-- ---- lists.

pub slice_get-set_same : {X : Type 0} (xs : List X) (i : ℕ) (v : X) → i < length xs → slice_get (set xs i v) i ≡ Some v
slice_get-set_same [] i v lt = absurd (omega arith)
slice_get-set_same (x ∷ xs) zero v lt = refl
slice_get-set_same (x ∷ xs) (suc i) v lt = slice_get-set_same xs i v (omega arith)

pub slice_get-set_other : {X : Type 0} (xs : List X) (i j : ℕ) (v : X) → j ≢ i → slice_get (set xs i v) j ≡ slice_get xs j
slice_get-set_other [] i j v ne = refl
slice_get-set_other (x ∷ xs) zero zero v ne = absurd (ne refl)
slice_get-set_other (x ∷ xs) zero (suc j) v ne = refl
slice_get-set_other (x ∷ xs) (suc i) zero v ne = refl
slice_get-set_other (x ∷ xs) (suc i) (suc j) v ne = slice_get-set_other xs i j v (λ e. ne (ap suc e))

-- Two facts of each.
both_of_each : {X : Type 0} (P Q R : X → Type 0) (xs : List X) → ((x : X) → P x → Q x → R x) → AllByRecursion P xs → AllByRecursion Q xs → AllByRecursion R xs
both_of_each P Q R [] f p q = tt
both_of_each P Q R (x ∷ xs) f p q = (f x p.0 q.0, both_of_each P Q R xs f p.1 q.1)

-- What holds at each place holds of each.
from_places : {X : Type 0} (P : X → Type 0) (xs : List X) → ((i : ℕ) → i < length xs → IfSome (slice_get xs i) P) → AllByRecursion P xs
from_places P [] h = tt
from_places P (x ∷ xs) h = (h 0 (omega arith), from_places P xs (λ i lt. h (suc i) (omega arith)))

-- A test that no element passes.
none_pass : {X : Type 0} (p : X → Bool) (xs : List X) → list_any p xs ≡ false → AllByRecursion (λ x. p x ≡ false) xs
none_pass p [] e = tt
none_pass p (x ∷ xs) e = by (p x) e (none_pass p xs)
  where
    by : (b : Bool) → (b || list_any p xs) ≡ false → (list_any p xs ≡ false → AllByRecursion (λ x. p x ≡ false) xs) → (b ≡ false) × AllByRecursion (λ x. p x ≡ false) xs
    by true e rest = absurd (true≢false e)
    by false e rest = (refl, rest e)

module _ {K : Type 0} (eq : K → K → Bool) (laws : IsEquivalence eq) where
  apart_here : (x : K) (zs : List K) (y : K) (ys : List K) → AllByRecursion (λ z. eq x z ≡ false) (zs ++ y ∷ ys) → eq x y ≡ false
  apart_here x [] y ys h = h.0
  apart_here x (z ∷ zs) y ys h = apart_here x zs y ys h.1

  -- In a list without repeats, an element is not among those before it.
  pub distinct_before : (xs : List K) (y : K) (ys : List K) → IsDistinct eq (xs ++ y ∷ ys) → list_any (eq y) xs ≡ false
  distinct_before [] y ys d = refl
  distinct_before (x ∷ xs) y ys d =
      let head : eq y x ≡ false = laws.symm y x ∙ apart_here x xs y ys (IsDistinct-head eq x (xs ++ y ∷ ys) d) in
      let rest : list_any (eq y) xs ≡ false = distinct_before xs y ys (IsDistinct-tail eq x (xs ++ y ∷ ys) d) in
      λ i. head i || rest i

-- ---- names at the places of their ids.

pub length-put_names : (es : List Entry) (names : List (List ℕ)) → length (put_names es names) ≡ length names
length-put_names [] names = refl
length-put_names (e ∷ es) names = length-set (put_names es names) e.id e.name ∙ length-put_names es names

pub put_names-push : (es : List Entry) (e : Entry) (names : List (List ℕ)) → put_names (es ++ e ∷ []) names ≡ put_names es (set names e.id e.name)
put_names-push [] e names = refl
put_names-push (f ∷ es) e names = ap (λ ns. set ns f.id f.name) (put_names-push es e names)

id_apart : (id : ℕ) (es : List Entry) → AllByRecursion (λ y. eqb id y ≡ false) (ids_of es) → AllByRecursion (λ e. eqb id e.id ≡ false) es
id_apart id [] h = tt
id_apart id (e ∷ es) h = (h.0, id_apart id es h.1)

pub placed : (es : List Entry) (names : List (List ℕ)) → IsDistinct eqb (ids_of es) → AllByRecursion (λ e. e.id < length names) es → AllByRecursion (λ e. slice_get (put_names es names) e.id ≡ Some e.name) es
placed [] names d below = tt
placed (e ∷ es) names d below = (
  slice_get-set_same (put_names es names) e.id e.name (subst (λ n. e.id < n) (sym (length-put_names es names)) below.0),
  both_of_each (λ f. eqb e.id f.id ≡ false) (λ f. slice_get (put_names es names) f.id ≡ Some f.name) (λ f. slice_get (set (put_names es names) e.id e.name) f.id ≡ Some f.name) es
      (λ f apart at. slice_get-set_other (put_names es names) e.id f.id e.name (λ same. true≢false (sym (eq-eqb e.id f.id (sym same)) ∙ apart)) ∙ at)
      (id_apart e.id es (IsDistinct-head eqb e.id (ids_of es) d))
      (placed es names (IsDistinct-tail eqb e.id (ids_of es) d) below.1),
)

-- ---- each id below the count is there.

below_listed : (count : ℕ) (es : List Entry) (q : ℕ) → AllByRecursion (λ e. e.id < count) es → list_any (eqb q) (ids_of es) ≡ true → q < count
below_listed count [] q h e = absurd (true≢false (sym e))
below_listed count (x ∷ es) q h e = by (eqb q x.id) refl e (below_listed count es q h.1)
  where
    by : (b : Bool) → eqb q x.id ≡ b → (b || list_any (eqb q) (ids_of es)) ≡ true → (list_any (eqb q) (ids_of es) ≡ true → q < count) → q < count
    by true same e rest = subst (λ n. n < count) (sym (eqb-true q x.id same)) h.0
    by false other e rest = rest e

pub covers : (count : ℕ) (es : List Entry) → IsDistinct eqb (ids_of es) → AllByRecursion (λ e. e.id < count) es → length es ≡ count → (i : ℕ) → i < count → has_id es i ≡ true
covers count es ids below all i lt = by (has_id es i) refl
  where
    listed : has_id es i ≡ false → list_any (eqb i) (ids_of es) ≡ false
    listed e = list_any-map (λ e. e.id) (eqb i) es ∙ e

    by : (b : Bool) → has_id es i ≡ b → b ≡ true
    by true e = refl
    by false e =
        let apart : AllByRecursion (λ y. eqb i y ≡ false) (ids_of es) = none_pass (eqb i) (ids_of es) (listed e) in
        let more : IsDistinct eqb (i ∷ ids_of es) = IsDistinct-cons eqb i (ids_of es) apart ids in
        let few = length-le_from_distinct_below (i ∷ ids_of es) count more (λ q h. below_listed count (record { id = i; name = [] } ∷ es) q (lt, below) h) in
        absurd (omega (arith, few, length-map es (λ e. e.id), all))

-- An entry with an id, at its place.
pub record Found (P : Entry → Type 0) (es : List Entry) (i : ℕ) : Type 0 where
  pub place : ℕ
  pub entry : Entry
  pub at : slice_get es place ≡ Some entry
  pub id : entry.id ≡ i
  pub holds : P entry

pub found : (P : Entry → Type 0) (es : List Entry) (i : ℕ) → AllByRecursion P es → has_id es i ≡ true → Found P es i
found P [] i h e = absurd (true≢false (sym e))
found P (x ∷ es) i h e = by (eqb i x.id) refl e (found P es i h.1)
  where
    by : (b : Bool) → eqb i x.id ≡ b → (b || has_id es i) ≡ true → (has_id es i ≡ true → Found P es i) → Found P (x ∷ es) i
    by true same e rest = record { place = 0; entry = x; at = refl; id = sym (eqb-true i x.id same); holds = h.0 }
    by false other e rest = let f = rest e in record { place = suc f.place; entry = f.entry; at = f.at; id = f.id; holds = f.holds }

-- Entries with two ids have two names.
entries_apart_at : (es : List Entry) → IsDistinct bytes_eq (names_of es) → (p q : ℕ) (e f : Entry) → slice_get es p ≡ Some e → slice_get es q ≡ Some f → p < q → bytes_eq e.name f.name ≡ false
entries_apart_at es once p q e f at_p at_q lt =
    let named_p : slice_get (names_of es) p ≡ Some e.name = slice_get-map (λ e. e.name) es p ∙ ap (option_map (λ e. e.name)) at_p in
    let named_q : slice_get (names_of es) q ≡ Some f.name = slice_get-map (λ e. e.name) es q ∙ ap (option_map (λ e. e.name)) at_q in
    sym (λ k. bytes_eq (get_or_from_slice_get (names_of es) p e.name [] named_p k) (get_or_from_slice_get (names_of es) q f.name [] named_q k))
    ∙ apart_from_distinct bytes_eq (names_of es) p q [] once lt (slice_get_within (names_of es) q f.name named_q)

pub entries_apart : (es : List Entry) → IsDistinct bytes_eq (names_of es) → (p q : ℕ) (e f : Entry) → slice_get es p ≡ Some e → slice_get es q ≡ Some f → e.id ≢ f.id → bytes_eq e.name f.name ≡ false
entries_apart es once p q e f at_p at_q ne = by (cases_lt p q) (cases_eq p q)
  where
    by : (p < q) ⊎ (q ≤ p) → (p ≡ q) ⊎ (p ≢ q) → bytes_eq e.name f.name ≡ false
    by (inl lt) other = entries_apart_at es once p q e f at_p at_q lt
    by (inr le) (inl same) = absurd (ne (ap (λ (o : Option Entry). option_map_or (λ e. e.id) o 0) (sym at_p ∙ ap (slice_get es) same ∙ at_q)))
    by (inr le) (inr other) = bytes_equiv.symm e.name f.name ∙ entries_apart_at es once q p f e at_q at_p (omega arith)

module _ (count : ℕ) (es : List Entry) (are : AreMet count es) (all : length es ≡ count) where
  length-by_id : length (by_id count es) ≡ count
  unfolding by_id
  length-by_id = length-put_names es (replicate count []) ∙ length-replicate count []

  placed_by_id : AllByRecursion (λ e. slice_get (by_id count es) e.id ≡ Some e.name) es
  unfolding by_id
  placed_by_id = placed es (replicate count []) are.ids (subst (λ n. AllByRecursion (λ e. e.id < n) es) (sym (length-replicate count [])) are.below)

  -- The names by id are arranged.
  pub by_id-Arranges : Arranges es (by_id count es)
  by_id-Arranges = record { ids = are.ids; once = are.once; count = length-by_id ∙ sym all; placed = placed_by_id }

  -- And no other names are.
  pub by_id-only : (names : List (List ℕ)) → Arranges es names → by_id count es ≡ names
  by_id-only names arranged = same_lists (by_id count es) names (length-by_id ∙ sym (arranged.count ∙ all)) each
    where
      each : (k : ℕ) (d : List ℕ) → k < length (by_id count es) → get_or (by_id count es) k d ≡ get_or names k d
      each k d lt =
          let below : k < count = subst (λ n. k < n) length-by_id lt in
          let f = found (λ e. (slice_get (by_id count es) e.id ≡ Some e.name) × (slice_get names e.id ≡ Some e.name)) es k
          (both_of_each (λ e. slice_get (by_id count es) e.id ≡ Some e.name) (λ e. slice_get names e.id ≡ Some e.name) (λ e. (slice_get (by_id count es) e.id ≡ Some e.name) × (slice_get names e.id ≡ Some e.name)) es (λ e a b. (a, b)) placed_by_id arranged.placed)
          (covers count es are.ids are.below all k below) in
          let here : get_or (by_id count es) k d ≡ f.entry.name = get_or_from_slice_get (by_id count es) k f.entry.name d (ap (slice_get (by_id count es)) (sym f.id) ∙ f.holds.0) in
          let there : get_or names k d ≡ f.entry.name = get_or_from_slice_get names k f.entry.name d (ap (slice_get names) (sym f.id) ∙ f.holds.1) in
          here ∙ sym there

  -- Names that are arranged are names of a kind.
  pub arranged-AreNames : (names : List (List ℕ)) → Arranges es names → AreNames count names
  arranged-AreNames names arranged = record {
    each = from_places IsName names (λ i lt. let f = at i lt in subst (λ o. IfSome o IsName) (sym (ap (slice_get names) (sym f.id) ∙ f.holds.0)) f.holds.1);
    once = IsDistinct-from_apart bytes_eq names apart;
    within = omega (arith, arranged.count, all);
  }
    where
      at : (i : ℕ) → i < length names → Found (λ e. (slice_get names e.id ≡ Some e.name) × IsName e.name) es i
      at i lt = found (λ e. (slice_get names e.id ≡ Some e.name) × IsName e.name) es i
          (both_of_each (λ e. slice_get names e.id ≡ Some e.name) (λ e. IsName e.name) (λ e. (slice_get names e.id ≡ Some e.name) × IsName e.name) es (λ e a b. (a, b)) arranged.placed are.each)
          (covers count es are.ids are.below all i (subst (λ n. i < n) (arranged.count ∙ all) lt))

      name_is : (i : ℕ) (d : List ℕ) (lt : i < length names) → get_or names i d ≡ (at i lt).entry.name
      name_is i d lt = get_or_from_slice_get names i (at i lt).entry.name d (ap (slice_get names) (sym (at i lt).id) ∙ (at i lt).holds.0)

      apart : (i j : ℕ) (d : List ℕ) → i < j → j < length names → bytes_eq (get_or names i d) (get_or names j d) ≡ false
      apart i j d lt below =
          let above : i < length names = omega arith in
          let f = at i above in
          let g = at j below in
          (λ k. bytes_eq (name_is i d above k) (name_is j d below k))
          ∙ entries_apart es are.once f.place g.place f.entry g.entry f.at g.at (λ same. omega (arith, (sym f.id ∙ same ∙ g.id)))
