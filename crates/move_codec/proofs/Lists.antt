-- Lists by their places: after a write, with one more element, without the last, and where an element stands.
use Rattle.move_codec.proofs.Words.{◌≡◌, ℕ, zero, suc, ◌<◌, ◌≤◌, Bool, false, cond, eqb, ltb, List, [], ◌∷◌, ◌++◌, Some, None, length, slice_get, take, set, inl, inr, refl, sym, ◌∙◌, ap, one-add, arith, cases_lt, eq-eqb, eqb-suc-suc, eqb-suc-zero, eqb-zero-suc, eqb_tells, nat_tests, position_or_len, prefix_len-le-length, same_Some, none-some, slice_get_past, number_of, without}

-- a function that is another one but for its value at one number
abbrev pub at : {A : Type 0} → (ℕ → A) → ℕ → A → ℕ → A
at f t x s = cond (eqb s t) x (f s)

pub get-set : (xs : List ℕ) (k x j : ℕ) → k < length xs → slice_get (set xs k x) j ≡ at (at (slice_get xs) k None) k (Some x) j
get-set [] k x j h = absurd (omega arith)
get-set (y ∷ ys) zero x zero h = refl
get-set (y ∷ ys) zero x (suc j) h = rw (eqb-suc-zero j) refl
get-set (y ∷ ys) (suc k) x zero h = rw (eqb-zero-suc k) refl
get-set (y ∷ ys) (suc k) x (suc j) h = rw (eqb-suc-suc j k) (get-set ys k x j (omega arith))

pub get-push : (xs : List ℕ) (x j : ℕ) → slice_get (xs ++ x ∷ []) j ≡ at (slice_get xs) (length xs) (Some x) j
get-push [] x zero = refl
get-push [] x (suc j) = rw (eqb-suc-zero j) refl
get-push (y ∷ ys) x zero = rw (eqb-zero-suc (length ys)) refl
get-push (y ∷ ys) x (suc j) = rw (eqb-suc-suc j (length ys)) (get-push ys x j)

pub get-front : (xs : List ℕ) (n j : ℕ) → length xs ≡ suc n → slice_get (take n xs) j ≡ at (slice_get xs) n None j
get-front [] n j h = absurd (cc)
get-front (y ∷ ys) zero zero h = refl
get-front (y ∷ ys) zero (suc j) h = rw (eqb-suc-zero j) (sym (slice_get_past ys j (omega arith)))
get-front (y ∷ ys) (suc n) zero h = rw (eqb-zero-suc n) refl
get-front (y ∷ ys) (suc n) (suc j) h = rw (eqb-suc-suc j n) (get-front ys n j (omega arith))

-- an element that stands somewhere is found
pub found : (xs : List ℕ) (j x : ℕ) → slice_get xs j ≡ Some x → slice_get xs (number_of xs x) ≡ Some x
found [] j x h = absurd (none-some x h)
found (y ∷ ys) zero x h = rw (eq-eqb y x (same_Some y x h)) h
found (y ∷ ys) (suc j) x h = elim (eqb_tells y x) [
  | inl same ↦ rw same.0 (ap (λ (v : ℕ). Some v) same.1)
  | inr other ↦ rw (other.0, one-add) (found ys j x h)
]

-- what is found stands there
pub found-within : (xs : List ℕ) (x : ℕ) → number_of xs x < length xs → slice_get xs (number_of xs x) ≡ Some x
found-within [] x h = absurd (omega arith)
found-within (y ∷ ys) x h = elim (eqb_tells y x) [
  | inl same ↦ rw same.0 (ap (λ (v : ℕ). Some v) same.1)
  | inr other ↦ let h' = rw other.0 at h in rw (other.0, one-add) (found-within ys x (omega arith))
]

-- what does not stand in a list is not taken from it
pub without-idle : (xs : List ℕ) (x : ℕ) → (slice_get xs (number_of xs x) ≡ Some x → ⊥) → without xs x ≡ xs
without-idle xs x none = elim (cases_lt (number_of xs x) (length xs)) [
  | inl within ↦ absurd (none (found-within xs x within))
  | inr past ↦ let test : ltb (number_of xs x) (length xs) ≡ false = grind (arith, nat_tests) in rw test refl
]

-- a place is at most the length
pub place_within : (test : ℕ → Bool) (xs : List ℕ) → position_or_len test xs ≤ length xs
place_within test xs = prefix_len-le-length _ xs
