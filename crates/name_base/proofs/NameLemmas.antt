-- Names without repeats: what a search, an added name and a cut do to the list.
use Rattle.std.proofs.Common.{◌≡◌, ◌≤◌, ◌<◌, ◌+◌, ℕ, Bool, true, false, cond, not, ltb, List, [], ◌∷◌, ◌++◌, length, take, map, None, Some, refl, sym, ap, ◌∙◌, subst, arith, position, ◌||◌, if◌then◌else◌, zero, suc}
use Rattle.std.specs.List.{prefix_len, position_or_len, list_any, AllByRecursion, IsDistinct}
use Rattle.std.specs.Str.{bytes_eq}
use Rattle.std.specs.Cmp.{IsEquivalence, nat_eq_equiv}
use Rattle.std.specs.Cmp.Lexicographic.{lists_equiv}
use Rattle.std.proofs.lemmas.Bool.Decides.{nat_tests}
use Rattle.std.proofs.lemmas.List.{map-append, take-map, length-map, length_push, length-take}
use Rattle.std.proofs.lemmas.Map.Keys.{IsDistinct-push}
use Rattle.indexmap.proofs.MapLemmas.{distinct-take}
use Rattle.indexmap.specs.IndexSet.{insert_key}
use Rattle.name_base.specs.NameLists.{AreNames, IsName, id_in, is_in, with_name}

module _ {X Y : Type 0} (f : X → Y) (p : Y → Bool) where
  prefix_len-map : (xs : List X) → prefix_len p (map f xs) ≡ prefix_len (λ x. p (f x)) xs
  prefix_len-map [] = refl
  prefix_len-map (x ∷ xs) = ap (λ n. cond (p (f x)) (1 + n) 0) (prefix_len-map xs)

  pub list_any-map : (xs : List X) → list_any p (map f xs) ≡ list_any (λ x. p (f x)) xs
  list_any-map [] = refl
  list_any-map (x ∷ xs) = ap (λ b. p (f x) || b) (list_any-map xs)

-- A place in a mapped list is the place in the list.
pub position-map : {X Y : Type 0} (f : X → Y) (p : Y → Bool) (xs : List X) → position p (map f xs) ≡ position (λ x. p (f x)) xs
position-map f p xs =
    let at = prefix_len-map f (λ y. not (p y)) xs in
    let long = length-map xs f in
    λ i. cond (ltb (at i) (long i)) (Some (at i)) None

-- There is a place exactly where an element passes.
found_is : {X : Type 0} (p : X → Bool) (xs : List X) → ltb (position_or_len p xs) (length xs) ≡ list_any p xs
found_is p [] = refl
found_is p (x ∷ xs) = by (p x) (found_is p xs)
  where
    by : (b : Bool) → ltb (position_or_len p xs) (length xs) ≡ list_any p xs → ltb (cond (not b) (1 + position_or_len p xs) 0) (length (x ∷ xs)) ≡ (b || list_any p xs)
    by true rest = grind (arith, nat_tests)
    by false rest = (let e : ltb (1 + position_or_len p xs) (length (x ∷ xs)) ≡ ltb (position_or_len p xs) (length xs) = grind (arith, nat_tests) in e) ∙ rest

-- A name has an id exactly where it is among the names.
pub absent : (names : List (List ℕ)) (name : List ℕ) → id_in names name ≡ None → is_in names name ≡ false
absent names name none = sym (found_is (bytes_eq name) names) ∙ by (ltb (position_or_len (bytes_eq name) names) (length names)) (position_or_len (bytes_eq name) names) none
  where
    by : (b : Bool) (n : ℕ) → cond b (Some n) None ≡ None → b ≡ false
    by true n e = cc
    by false n e = refl

pub present : (names : List (List ℕ)) (name : List ℕ) (id : ℕ) → Some id ≡ id_in names name → is_in names name ≡ true
present names name id some = sym (found_is (bytes_eq name) names) ∙ by (ltb (position_or_len (bytes_eq name) names) (length names)) (position_or_len (bytes_eq name) names) (sym some)
  where
    by : (b : Bool) (n : ℕ) → cond b (Some n) None ≡ Some id → b ≡ true
    by true n e = refl
    by false n e = cc

-- A name that is there changes nothing, and a new one comes last.
pub with_name-present : (names : List (List ℕ)) (name : List ℕ) (id : ℕ) → Some id ≡ id_in names name → names ≡ with_name names name
with_name-present names name id some = sym (ap (λ b. if b then names else names ++ name ∷ []) (present names name id some))

pub with_name-absent : (names : List (List ℕ)) (name : List ℕ) → id_in names name ≡ None → with_name names name ≡ names ++ name ∷ []
with_name-absent names name none = ap (λ b. if b then names else names ++ name ∷ []) (absent names name none)

pub bytes_equiv : IsEquivalence bytes_eq
bytes_equiv = lists_equiv nat_eq_equiv

pub AllByRecursion-push : {X : Type 0} (P : X → Type 0) (xs : List X) (x : X) → AllByRecursion P xs → P x → AllByRecursion P (xs ++ x ∷ [])
AllByRecursion-push P [] x h p = (p, tt)
AllByRecursion-push P (y ∷ ys) x h p = (h.0, AllByRecursion-push P ys x h.1 p)

AllByRecursion-take : {X : Type 0} (P : X → Type 0) (n : ℕ) (xs : List X) → AllByRecursion P xs → AllByRecursion P (take n xs)
AllByRecursion-take P zero xs h = tt
AllByRecursion-take P (suc n) [] h = tt
AllByRecursion-take P (suc n) (x ∷ xs) h = (h.0, AllByRecursion-take P n xs h.1)

pub AreNames-none : (limit : ℕ) → AreNames limit []
unfolding IsDistinct
AreNames-none limit = record { each = tt; once = tt; within = omega arith }

-- A new name below the limit keeps the rules.
pub AreNames-push : (limit : ℕ) (names : List (List ℕ)) (name : List ℕ) → AreNames limit names → IsName name → id_in names name ≡ None → length names < limit → AreNames limit (names ++ name ∷ [])
AreNames-push limit names name are is none room = record {
  each = AllByRecursion-push IsName names name are.each is;
  once = IsDistinct-push bytes_equiv names name are.once (absent names name none);
  within = rw length_push (omega arith);
}

-- A cut keeps the rules.
pub AreNames-take : (limit n : ℕ) (names : List (List ℕ)) → AreNames limit names → AreNames limit (take n names)
AreNames-take limit n names are = record {
  each = AllByRecursion-take IsName n names are.each;
  once = distinct-take bytes_equiv n names are.once;
  within = rw length-take (omega (arith, are.within));
}

-- What an insert into a set of keys leaves, seen as names.
pub names_inserted : {X : Type 0} (f : X → List ℕ) (keys : List X) (k : X) → map f (insert_key (λ x y. bytes_eq (f x) (f y)) keys k) ≡ with_name (map f keys) (f k)
names_inserted f keys k =
    ap (λ b. map f (if b then keys else keys ++ k ∷ [])) (sym (list_any-map f (bytes_eq (f k)) keys))
    ∙ by (is_in (map f keys) (f k))
  where
    by : (b : Bool) → map f (if b then keys else keys ++ k ∷ []) ≡ (if b then map f keys else map f keys ++ f k ∷ [])
    by true = refl
    by false = map-append f keys (k ∷ [])

pub names_added : {X : Type 0} (f : X → List ℕ) (keys after : List X) (k : X) (names : List (List ℕ)) (name : List ℕ)
    → map f keys ≡ names → f k ≡ name → after ≡ insert_key (λ x y. bytes_eq (f x) (f y)) keys k → map f after ≡ with_name names name
names_added f keys after k names name seen is done = ap (map f) done ∙ names_inserted f keys k ∙ (λ i. with_name (seen i) (is i))

-- with_name of a new name below the limit keeps the rules.
pub AreNames-with_name : (limit : ℕ) (names : List (List ℕ)) (name : List ℕ) → AreNames limit names → IsName name → id_in names name ≡ None → length names < limit → AreNames limit (with_name names name)
AreNames-with_name limit names name are is none room =
    subst (AreNames limit) (sym (with_name-absent names name none)) (AreNames-push limit names name are is none room)

-- What a cut of the keys leaves, seen as names.
pub names_cut : {X : Type 0} (f : X → List ℕ) (keys after : List X) (n : ℕ) (names : List (List ℕ))
    → map f keys ≡ names → after ≡ take n keys → map f after ≡ take n names
names_cut f keys after n names seen done = ap (map f) done ∙ sym (take-map f n keys) ∙ ap (take n) seen

-- A greater limit.
pub AreNames-wider : (count limit : ℕ) (names : List (List ℕ)) → count ≤ limit → AreNames count names → AreNames limit names
AreNames-wider count limit names le are = record { each = are.each; once = are.once; within = omega (arith, are.within) }
