-- Tests of numbers that follow each other.
use Rattle.std.proofs.Common.{◌≡◌, ℕ, ◌+◌, ◌-◌, ◌<◌, ◌≤◌, zero, suc, Bool, true, false, cond, ◌&&◌, ◌||◌, eqb, List, [], ◌∷◌, length, Option, None, Some, refl, sym, ap, ◌∙◌, subst, arith, eq-eqb, inl, inr}
use Rattle.std.specs.Prelude.{◌⊎◌}
use Rattle.std.specs.List.{filter, find, list_all, list_any, range_with_len}
use Rattle.std.proofs.lemmas.Bool.{and_from, and_parts, both_ways, cases_Bool, cases_eq, ne_eqb}
use Rattle.std.proofs.lemmas.List.Folds.{list_any_at}
use Rattle.std.proofs.lemmas.List.FromFn.{get_or-range_with_len, length-range_with_len}

-- ---- all of them

pub all_from : (test : ℕ → Bool) (a n : ℕ) → ((v : ℕ) → a ≤ v → v < a + n → test v ≡ true) → list_all test (range_with_len a n) ≡ true
all_from test a zero pass = refl
all_from test a (suc n) pass =
    and_from (test a) (list_all test (range_with_len (a + 1) n)) (pass a (omega arith) (omega arith))
    (all_from test (a + 1) n (λ v from less. pass v (omega (arith, from)) (omega (arith, less))))

pub all_each : (test : ℕ → Bool) (a n v : ℕ) → list_all test (range_with_len a n) ≡ true → a ≤ v → v < a + n → test v ≡ true
all_each test a zero v all from less = absurd (omega (arith, from, less))
all_each test a (suc n) v all from less =
    let both = and_parts (test a) (list_all test (range_with_len (a + 1) n)) all in
    elim (cases_eq a v) [
      | inl same ↦ subst (λ (k : ℕ). test k ≡ true) same both.0
      | inr apart ↦ all_each test (a + 1) n v both.1 (omega (arith, from, apart)) (omega (arith, less))
    ]

-- One that does not pass settles it.
pub all_not : (test : ℕ → Bool) (a n v : ℕ) → a ≤ v → v < a + n → test v ≡ false → list_all test (range_with_len a n) ≡ false
all_not test a n v from less fails = elim (cases_Bool (list_all test (range_with_len a n))) [
  | inl all ↦ absurd (both_ways (test v) fails (all_each test a n v all from less))
  | inr not ↦ not
]

-- ---- one of them

pub any_from : (test : ℕ → Bool) (a n v : ℕ) → a ≤ v → v < a + n → test v ≡ true → list_any test (range_with_len a n) ≡ true
any_from test a n v from less holds =
    let within : v - a < n = omega (arith, from, less) in
    let at = get_or-range_with_len a n (v - a) 0 within in
    let back : a + (v - a) ≡ v = omega (arith, from) in
    list_any_at test (range_with_len a n) (v - a) 0 (subst (λ (k : ℕ). v - a < k) (sym (length-range_with_len a n)) within)
    (ap test (at ∙ back) ∙ holds)

-- Where no earlier one passes, the last tells.
pub any_last : (test : ℕ → Bool) (a n : ℕ) → ((v : ℕ) → a ≤ v → v < a + n → test v ≡ false) → list_any test (range_with_len a (suc n)) ≡ test (a + n)
any_last test a zero none = last (test a) ∙ ap test (let same : a ≡ a + 0 = omega arith in same)
  where
    last : (t : Bool) → (t || false) ≡ t
    last true = refl
    last false = refl
any_last test a (suc n) none =
    let here : test a ≡ false = none a (omega arith) (omega arith) in
    let later = any_last test (a + 1) n (λ v from less. none v (omega (arith, from)) (omega (arith, less))) in
    let same : a + 1 + n ≡ a + suc n = omega arith in
    rw here (later ∙ ap test same)

-- ---- the first

-- The first that passes, and none where none does.
pub find_first : (test : ℕ → Bool) (a n k : ℕ) → a ≤ k → k < a + n → test k ≡ true → ((j : ℕ) → j < k → test j ≡ false) → find test (range_with_len a n) ≡ Some k
find_first test a zero k from within holds before = absurd (omega (arith, from, within))
find_first test a (suc n) k from within holds before = elim (cases_eq a k) [
  | inl same ↦
      let here : test a ≡ true = ap test same ∙ holds in
      rw here (ap (λ (j : ℕ). Some j) same)
  | inr apart ↦
      let here : test a ≡ false = before a (omega (arith, from, apart)) in
      rw here (find_first test (a + 1) n k (omega (arith, from, apart)) (omega (arith, within)) holds before)
]

pub find_none : (test : ℕ → Bool) (a n : ℕ) → ((v : ℕ) → a ≤ v → v < a + n → test v ≡ false) → find test (range_with_len a n) ≡ None
find_none test a zero none = refl
find_none test a (suc n) none =
    let here : test a ≡ false = none a (omega arith) (omega arith) in
    rw here (find_none test (a + 1) n (λ v from less. none v (omega (arith, from)) (omega (arith, less))))

-- It is one that passes, and none before it does; and where there is none, none passes.
pub record IsFirst (test : ℕ → Bool) (a n k : ℕ) : Type 0 where
  pub from : a ≤ k
  pub within : k < a + n
  pub passes : test k ≡ true
  pub before : (v : ℕ) → a ≤ v → v < k → test v ≡ false

taken : (t : Bool) (a k : ℕ) (rest : Option ℕ) → cond t (Some a) rest ≡ Some k → ((t ≡ true) × (a ≡ k)) ⊎ ((t ≡ false) × (rest ≡ Some k))
taken true a k rest h = inl (refl, cc)
taken false a k rest h = inr (refl, h)

passed_over : (t : Bool) (a : ℕ) (rest : Option ℕ) → cond t (Some a) rest ≡ None → (t ≡ false) × (rest ≡ None)
passed_over true a rest h = absurd (cc)
passed_over false a rest h = (refl, h)

pub found_first : (test : ℕ → Bool) (a n k : ℕ) → find test (range_with_len a n) ≡ Some k → IsFirst test a n k
found_first test a zero k found = absurd (cc)
found_first test a (suc n) k found = elim (taken (test a) a k (find test (range_with_len (a + 1) n)) found) [
  | inl here ↦ record {
    from = omega (arith, here.1);
    within = omega (arith, here.1);
    passes = ap test (sym here.1) ∙ here.0;
    before = λ v from less. absurd (omega (arith, from, less, here.1));
  }
  | inr later ↦
      let rest = found_first test (a + 1) n k later.1 in
      record {
        from = omega (arith, rest.from);
        within = omega (arith, rest.within);
        passes = rest.passes;
        before = λ v from less. elim (cases_eq a v) [
          | inl same ↦ ap test (sym same) ∙ later.0
          | inr apart ↦ rest.before v (omega (arith, from, apart)) less
        ];
      }
]

pub found_none : (test : ℕ → Bool) (a n v : ℕ) → find test (range_with_len a n) ≡ None → a ≤ v → v < a + n → test v ≡ false
found_none test a zero v none from less = absurd (omega (arith, from, less))
found_none test a (suc n) v none from less =
    let over = passed_over (test a) a (find test (range_with_len (a + 1) n)) none in
    elim (cases_eq a v) [
      | inl same ↦ ap test (sym same) ∙ over.0
      | inr apart ↦ found_none test (a + 1) n v over.1 (omega (arith, from, apart)) (omega (arith, less))
    ]

-- ---- those that pass

any_in : (p : ℕ → Bool) (t : Bool) (x : ℕ) (ys : List ℕ) → list_any p (cond t (x ∷ ys) ys) ≡ ((t && p x) || list_any p ys)
any_in p true x ys = refl
any_in p false x ys = refl

-- A number below them is none of those that pass.
none_below : (f : ℕ → Bool) (v a n : ℕ) → v < a → list_any (eqb v) (filter f (range_with_len a n)) ≡ false
none_below f v a zero under = refl
none_below f v a (suc n) under =
    any_in (eqb v) (f a) a (filter f (range_with_len (a + 1) n))
    ∙ neither (f a) (eqb v a) (list_any (eqb v) (filter f (range_with_len (a + 1) n))) (ne_eqb v a (λ same. omega (arith, same, under)))
    (none_below f v (a + 1) n (omega (arith, under)))
  where
    neither : (t e r : Bool) → e ≡ false → r ≡ false → ((t && e) || r) ≡ false
    neither true e r h i = rw (h, i) refl
    neither false e r h i = i

-- One of them is among those that pass where it passes.
pub any_passed : (f : ℕ → Bool) (v a n : ℕ) → a ≤ v → v < a + n → list_any (eqb v) (filter f (range_with_len a n)) ≡ f v
any_passed f v a zero from less = absurd (omega (arith, from, less))
any_passed f v a (suc n) from less = elim (cases_eq v a) [
  | inl same ↦
      any_in (eqb v) (f a) a (filter f (range_with_len (a + 1) n))
      ∙ this_one (f a) (eqb v a) (list_any (eqb v) (filter f (range_with_len (a + 1) n))) (eq-eqb v a same) (none_below f v (a + 1) n (omega (arith, same)))
      ∙ ap f (sym same)
  | inr apart ↦
      any_in (eqb v) (f a) a (filter f (range_with_len (a + 1) n))
      ∙ not_this (f a) (eqb v a) (list_any (eqb v) (filter f (range_with_len (a + 1) n))) (ne_eqb v a apart)
      ∙ any_passed f v (a + 1) n (omega (arith, from, apart)) (omega (arith, less))
]
  where
    this_one : (t e r : Bool) → e ≡ true → r ≡ false → ((t && e) || r) ≡ t
    this_one true e r h i = rw h refl
    this_one false e r h i = i

    not_this : (t e r : Bool) → e ≡ false → ((t && e) || r) ≡ r
    not_this true e r h = rw h refl
    not_this false e r h = refl

-- Where none passes, there are none.
none_pass : (f : ℕ → Bool) (a n : ℕ) → ((v : ℕ) → a ≤ v → v < a + n → f v ≡ false) → filter f (range_with_len a n) ≡ []
none_pass f a zero none = refl
none_pass f a (suc n) none =
    let here : f a ≡ false = none a (omega arith) (omega arith) in
    rw here (none_pass f (a + 1) n (λ v from less. none v (omega (arith, from)) (omega (arith, less))))

-- Where no two pass, there is one at most.
pub one_passes : (f : ℕ → Bool) (a n : ℕ)
    → ((v w : ℕ) → a ≤ v → v < a + n → a ≤ w → w < a + n → f v ≡ true → f w ≡ true → v ≡ w) → length (filter f (range_with_len a n)) ≤ 1
one_passes f a zero alone = omega arith
one_passes f a (suc n) alone = elim (cases_Bool (f a)) [
  | inl here ↦
      let rest : filter f (range_with_len (a + 1) n) ≡ [] =
      none_pass f (a + 1) n (λ v from less. elim (cases_Bool (f v)) [
        | inl there ↦ absurd (omega (arith, from, alone a v (omega arith) (omega arith) (omega (arith, from)) (omega (arith, less)) here there))
        | inr not ↦ not
      ]) in
      rw (here, rest) (omega arith)
  | inr not ↦ rw not (one_passes f (a + 1) n (λ v w from less from' less'. alone v w (omega (arith, from)) (omega (arith, less)) (omega (arith, from')) (omega (arith, less'))))
]
