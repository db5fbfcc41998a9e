-- Tests and sums over numbers that follow each other, with one number more.
use Rattle.std.proofs.Common.{◌≡◌, ℕ, ◌+◌, ◌<◌, ◌≤◌, zero, suc, Bool, true, false, cond, ◌||◌, List, [], ◌∷◌, ◌++◌, filter, refl, ap, ◌∙◌, arith, add-one, inl, inr}
use Rattle.std.specs.List.{list_any, range_with_len}
use Rattle.std.proofs.lemmas.Bool.{or_cases, or_from}
use Rattle.std.proofs.lemmas.List.Elements.{filter-append}

or_none : (t : Bool) → (t || false) ≡ t
or_none true = refl
or_none false = refl

or_assoc : (s t u : Bool) → (s || (t || u)) ≡ ((s || t) || u)
or_assoc true t u = refl
or_assoc false t u = refl

any_next : (test : ℕ → Bool) (a n : ℕ) → list_any test (range_with_len a (suc n)) ≡ (list_any test (range_with_len a n) || test (a + n))
any_next test a zero = or_none (test a) ∙ ap test (let same : a ≡ a + 0 = omega arith in same)
any_next test a (suc n) =
    ap (λ (t : Bool). test a || t) (any_next test (a + 1) n)
    ∙ or_assoc (test a) (list_any test (range_with_len (a + 1) n)) (test (a + 1 + n))
    ∙ ap (λ (k : ℕ). list_any test (range_with_len a (suc n)) || test k) (let same : a + 1 + n ≡ a + suc n = omega arith in same)

pub any_more : (test : ℕ → Bool) (n : ℕ) → list_any test (range_with_len 0 (n + 1)) ≡ (list_any test (range_with_len 0 n) || test n)
any_more test n =
    ap (λ (k : ℕ). list_any test (range_with_len 0 k)) (add-one n) ∙ any_next test 0 n
    ∙ ap (λ (k : ℕ). list_any test (range_with_len 0 n) || test k) (let same : 0 + n ≡ n = omega arith in same)

-- One of them passes, or none does.
pub any_found : (test : ℕ → Bool) (a n : ℕ) → list_any test (range_with_len a n) ≡ true → (k : ℕ) × ((k < a + n) × (test k ≡ true))
any_found test a zero any = absurd (cc)
any_found test a (suc n) any = elim (or_cases (test a) (list_any test (range_with_len (a + 1) n)) any) [
  | inl here ↦ (a, (omega arith, here))
  | inr later ↦ let found = any_found test (a + 1) n later in (found.0, (omega (arith, found.1.0), found.1.1))
]

pub any_none : (test : ℕ → Bool) (a n : ℕ) → ((v : ℕ) → a ≤ v → v < a + n → test v ≡ false) → list_any test (range_with_len a n) ≡ false
any_none test a zero none = refl
any_none test a (suc n) none =
    or_from (test a) (list_any test (range_with_len (a + 1) n)) (none a (omega arith) (omega arith))
    (any_none test (a + 1) n (λ v from less. none v (omega (arith, from)) (omega (arith, less))))

range_next : (a n : ℕ) → range_with_len a (suc n) ≡ range_with_len a n ++ (a + n) ∷ []
range_next a zero = ap (λ (k : ℕ). k ∷ []) (let same : a ≡ a + 0 = omega arith in same)
range_next a (suc n) =
    ap (λ (rest : List ℕ). a ∷ rest) (range_next (a + 1) n)
    ∙ ap (λ (k : ℕ). range_with_len a (suc n) ++ k ∷ []) (let same : a + 1 + n ≡ a + suc n = omega arith in same)

pub filter_next : (test : ℕ → Bool) (n : ℕ) → filter test (range_with_len 0 (n + 1)) ≡ filter test (range_with_len 0 n) ++ cond (test n) (n ∷ []) []
filter_next test n =
    ap (λ (k : ℕ). filter test (range_with_len 0 k)) (add-one n) ∙ ap (filter test) (range_next 0 n) ∙ filter-append test (range_with_len 0 n) ((0 + n) ∷ [])
    ∙ ap (λ (k : ℕ). filter test (range_with_len 0 n) ++ cond (test k) (k ∷ []) []) (let same : 0 + n ≡ n = omega arith in same)

-- The next number passes, or does not.
pub filter_with : (test : ℕ → Bool) (n : ℕ) → test n ≡ true → filter test (range_with_len 0 (n + 1)) ≡ filter test (range_with_len 0 n) ++ n ∷ []
filter_with test n holds =
    filter_next test n ∙ ap (λ (t : Bool). filter test (range_with_len 0 n) ++ cond t (n ∷ []) []) holds

pub append_none : (xs : List ℕ) → xs ++ [] ≡ xs
append_none [] = refl
append_none (x ∷ xs) = ap (λ (rest : List ℕ). x ∷ rest) (append_none xs)

pub filter_without : (test : ℕ → Bool) (n : ℕ) → test n ≡ false → filter test (range_with_len 0 (n + 1)) ≡ filter test (range_with_len 0 n)
filter_without test n fails =
    filter_next test n ∙ ap (λ (t : Bool). filter test (range_with_len 0 n) ++ cond t (n ∷ []) []) fails
    ∙ append_none (filter test (range_with_len 0 n))
