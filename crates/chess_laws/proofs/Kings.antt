-- A side that has one king has it where the first one stands.
use Rattle.chess_laws.proofs.Words.{◌≡◌, ℕ, zero, suc, ◌+◌, ◌<◌, Bool, true, false, cond, List, [], ◌∷◌, length, count_by, Option, Some, None, get_or, refl, ◌∙◌, ap, one-add, arith, Decides, position_or_len, position, sum_by-cons, cases_Bool, inl, inr, ltb, Decides-and, Decides-like, nat_tests, Colour, Kind, King, Man, Men, man_at, man, is_man, same_colour-Decides, same_kind-Decides, king_square}

-- the test of a man finds just that man
pub is_man-Decides : (c : Colour) (k : Kind) (x : Option Man) → Decides (is_man c k x) (x ≡ Some (man c k))
is_man-Decides c k None = (λ h. absurd (cc), λ h. absurd (cc))
is_man-Decides c k (Some m) =
    Decides-like (is_man c k (Some m)) (λ (h : (m.colour ≡ c) × (m.kind ≡ k)). λ i. Some (record { colour = h.0 i; kind = h.1 i })) (λ h. (cc, cc))
    (Decides-and _ _ (same_colour-Decides m.colour c) (same_kind-Decides m.kind k))

pub is_man-Some : (c : Colour) (k : Kind) (x : Option Man) → is_man c k x ≡ true → x ≡ Some (man c k)
is_man-Some c k x = (is_man-Decides c k x).0

pub is_man-true : (c : Colour) (k : Kind) → is_man c k (Some (man c k)) ≡ true
is_man-true c k = (is_man-Decides c k (Some (man c k))).1 refl

-- a count by its first element
count-cons : {X : Type 0} (p : X → Bool) (x : X) (xs : List X) (t : Bool) → p x ≡ t → count_by p (x ∷ xs) ≡ cond t 1 0 + count_by p xs
count-cons p x xs t h = sum_by-cons (λ y. cond (p y) 1 0) x xs ∙ ap (λ b. cond b 1 0 + count_by p xs) h

-- what passes a test is one of those that pass
counted : {X : Type 0} (p : X → Bool) (xs : List X) (s : ℕ) (d : X) → p d ≡ false → p (get_or xs s d) ≡ true → 0 < count_by p xs
counted p [] s d fails h = absurd (cc)
counted p (x ∷ xs) zero d fails h = omega (arith, count-cons p x xs true h)
counted p (x ∷ xs) (suc s) d fails h = omega (arith, counted p xs s d fails h, count-cons p x xs (p x) refl)

-- and where just one passes, it is the first
only-first : {X : Type 0} (p : X → Bool) (xs : List X) (s : ℕ) (d : X) → p d ≡ false → count_by p xs ≡ 1 → p (get_or xs s d) ≡ true → s ≡ position_or_len p xs
only-first p [] s d fails one h = absurd (cc)
only-first p (x ∷ xs) zero d fails one h = rw h refl
only-first p (x ∷ xs) (suc s) d fails one h =
    elim (cases_Bool (p x)) [
      | inl is ↦ absurd (omega (arith, counted p xs s d fails h, count-cons p x xs true is))
      | inr isnt ↦ let r = only-first p xs s d fails (omega (arith, count-cons p x xs false isnt)) h in rw isnt (omega arith)
    ]

-- where one passes, the first does, and stands in the list
first-is : {X : Type 0} (p : X → Bool) (xs : List X) (d : X) → 0 < count_by p xs →
    (position_or_len p xs < length xs) × (p (get_or xs (position_or_len p xs) d) ≡ true)
first-is p [] d some = absurd (omega arith)
first-is p (x ∷ xs) d some =
    elim (cases_Bool (p x)) [
      | inl is ↦ rw is (omega arith, is)
      | inr isnt ↦ let r = first-is p xs d (omega (arith, count-cons p x xs false isnt)) in rw isnt (omega arith, rw one-add r.1)
    ]

pub king-stands : (men : Men) (c : Colour) → count_by (is_man c King) men ≡ 1 → man_at men (king_square men c) ≡ Some (man c King)
king-stands men c one = is_man-Some c King (man_at men (king_square men c)) (first-is (is_man c King) men None (omega arith)).1

pub king-only : (men : Men) (c : Colour) (s : ℕ) → count_by (is_man c King) men ≡ 1 → man_at men s ≡ Some (man c King) → s ≡ king_square men c
king-only men c s one h = only-first (is_man c King) men s None refl one (rw h (is_man-true c King))

-- so there is one
pub first_none : {X : Type 0} (p : X → Bool) (xs : List X) (d : X) → count_by p xs ≡ 1 → None ≡ position p xs → ⊥
first_none p xs d one h =
    let within = (first-is p xs d (omega arith)).0 in
    let test : ltb (position_or_len p xs) (length xs) ≡ true = grind (arith, nat_tests) in
    let e = rw test at h in cc
