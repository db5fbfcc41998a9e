-- Laws of lists, place by place.
use Rattle.std.proofs.Common.{◌≡◌, ◌≢◌, ◌<◌, ℕ, zero, suc, List, [], ◌∷◌, ◌++◌, length, slice_get, slice_set, Some, refl, ap, ap₂, ◌∙◌, arith, le_of_suc-le-suc, take, Bool, ◌+◌, count_by, cond}
use Rattle.std.proofs.lemmas.List.Sums.{sum_by_push}
use Rattle.std.proofs.lemmas.List.{take_more}
use Rattle.std.proofs.lemmas.Option.{get_or_from_slice_get, slice_get_within}

-- There is an element at each place below the length.
pub get_some : {X : Type 0} (xs : List X) (i : ℕ) → i < length xs → (x : X) × (slice_get xs i ≡ Some x)
get_some [] i below = absurd (omega (arith, below))
get_some (x ∷ xs) zero below = (x, refl)
get_some (x ∷ xs) (suc i) below = get_some xs i (le_of_suc-le-suc below)

-- A list with one element more has the same elements at the places of the list, and then that one.
pub get_push_old : {X : Type 0} (xs : List X) (x : X) (i : ℕ) → i < length xs → slice_get (xs ++ x ∷ []) i ≡ slice_get xs i
get_push_old [] x i below = absurd (omega (arith, below))
get_push_old (y ∷ xs) x zero below = refl
get_push_old (y ∷ xs) x (suc i) below = get_push_old xs x i (le_of_suc-le-suc below)

pub get_push_new : {X : Type 0} (xs : List X) (x : X) → slice_get (xs ++ x ∷ []) (length xs) ≡ Some x
get_push_new [] x = refl
get_push_new (y ∷ xs) x = get_push_new xs x

-- Lists of one length with the same elements at each place are one.
pub same_lists : {X : Type 0} (xs ys : List X) → length xs ≡ length ys → ((i : ℕ) (x y : X) → slice_get xs i ≡ Some x → slice_get ys i ≡ Some y → x ≡ y) → xs ≡ ys
same_lists [] [] long each = refl
same_lists [] (y ∷ ys) long each = absurd (omega (arith, long))
same_lists (x ∷ xs) [] long each = absurd (omega (arith, long))
same_lists (x ∷ xs) (y ∷ ys) long each =
    ap₂ (λ a rest. a ∷ rest) (each 0 x y refl refl) (same_lists xs ys (omega (arith, long)) (λ i a b left right. each (suc i) a b left right))

-- How many elements of a list with one more pass a test.
pub count_push : {X : Type 0} (p : X → Bool) (xs : List X) (x : X) → count_by p (xs ++ x ∷ []) ≡ count_by p xs + cond (p x) 1 0
count_push p xs x = sum_by_push (λ y. cond (p y) 1 0) xs x

-- What stands at the places of a list in which one element was replaced.
pub get-set_same : {X : Type 0} (xs : List X) (i : ℕ) (x : X) → i < length xs → slice_get (slice_set xs i x) i ≡ Some x
get-set_same [] i x below = absurd (omega (arith, below))
get-set_same (y ∷ xs) zero x below = refl
get-set_same (y ∷ xs) (suc i) x below = get-set_same xs i x (le_of_suc-le-suc below)

pub get-set_other : {X : Type 0} (xs : List X) (i j : ℕ) (x : X) → j ≢ i → slice_get (slice_set xs i x) j ≡ slice_get xs j
get-set_other [] i j x other = refl
get-set_other (y ∷ xs) zero zero x other = absurd (other refl)
get-set_other (y ∷ xs) zero (suc j) x other = refl
get-set_other (y ∷ xs) (suc i) zero x other = refl
get-set_other (y ∷ xs) (suc i) (suc j) x other = get-set_other xs i j x (λ same. other (ap suc same))

-- The first elements and the next.
pub take_next : {X : Type 0} (xs : List X) (i : ℕ) (x : X) → slice_get xs i ≡ Some x → take (i + 1) xs ≡ take i xs ++ x ∷ []
take_next {X} xs i x at = take_more xs i x (slice_get_within xs i x at) ∙ ap (λ (y : X). take i xs ++ y ∷ []) (get_or_from_slice_get xs i x x at)
