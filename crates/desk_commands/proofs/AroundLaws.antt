-- The elements before and behind a place of a list, as writes to these parts leave them.
use Rattle.std.proofs.Common.{◌≡◌, ◌<◌, ◌≤◌, ◌+◌, ◌-◌, ℕ, zero, suc, List, [], ◌∷◌, ◌++◌, Result, Ok, Err, OnOk, drop, length, map, take, refl, ap, ◌∙◌, arith}
use Rattle.std.proofs.lemmas.List.{append-nil, drop-map, drop_all, length-append, length-drop, length-take, take-append-le, take-map}
use Rattle.std.proofs.lemmas.Slice.{between_to_end, drop-append-drop}
use Rattle.std.specs.List.{between}
use borrow.Rule.Slice.PartMut.{put_mid}

-- A part that reaches to the end.
tail_is : {X : Type 0} (a : ℕ) (xs ys : List X) → a ≤ length xs → put_mid a (length xs - a) xs ys ≡ take a xs ++ ys
tail_is a xs ys le =
    let none : drop (length xs - a) (drop a xs) ≡ [] = drop_all (length xs - a) (drop a xs) (omega (arith, length-drop a xs)) in
    ap (λ l. take a xs ++ l) (ap (λ l. ys ++ l) none ∙ append-nil ys)

take_front : {X : Type 0} (front back : List X) (n : ℕ) → length front ≡ n → take n (front ++ back) ≡ front
take_front [] back zero long = refl
take_front [] back (suc n) long = absurd (omega (arith, long))
take_front (x ∷ front) back zero long = absurd (omega (arith, long))
take_front (x ∷ front) back (suc n) long = ap (λ l. x ∷ l) (take_front front back n (omega (arith, long)))

drop_front : {X : Type 0} (front back : List X) (n : ℕ) → length front ≡ n → drop n (front ++ back) ≡ back
drop_front [] back zero long = refl
drop_front [] back (suc n) long = absurd (omega (arith, long))
drop_front (x ∷ front) back zero long = absurd (omega (arith, long))
drop_front (x ∷ front) back (suc n) long = drop_front front back n (omega (arith, long))

take_twice : {X : Type 0} (xs : List X) (n m : ℕ) → n ≤ m → take n (take m xs) ≡ take n xs
take_twice [] zero zero le = refl
take_twice [] zero (suc m) le = refl
take_twice [] (suc n) zero le = refl
take_twice [] (suc n) (suc m) le = refl
take_twice (x ∷ xs) zero m le = refl
take_twice (x ∷ xs) (suc n) zero le = absurd (omega (arith, le))
take_twice (x ∷ xs) (suc n) (suc m) le = ap (λ l. x ∷ l) (take_twice xs n m (omega (arith, le)))

-- First the front was written, and then what stands behind the place.
abbrev once : {X : Type 0} → ℕ → List X → List X → List X
once c xs front = front ++ drop c xs

once_long : {X : Type 0} (c : ℕ) (xs front : List X) → c < length xs → length front ≡ c → length (once c xs front) ≡ length xs
once_long c xs front there long = omega (arith, length-append front (drop c xs), length-drop c xs, long, there)

pub around_rest : {X : Type 0} (c : ℕ) (xs front : List X) → length front ≡ c → between (c + 1) (length (front ++ drop c xs)) (front ++ drop c xs) ≡ drop (c + 1) xs
around_rest c xs front long = between_to_end (once c xs front) (c + 1) (length (once c xs front)) (omega arith) ∙ drop-append-drop c xs front (c + 1) (omega arith) long

head_long : {X : Type 0} (c : ℕ) (xs front : List X) → c < length xs → length front ≡ c → length (take (c + 1) (once c xs front)) ≡ c + 1
head_long c xs front there long = omega (arith, length-take (c + 1) (once c xs front), once_long c xs front there long, there)

pub around_front : {X : Type 0} (c : ℕ) (xs front back : List X) → c < length xs → length front ≡ c → take c (put_mid (c + 1) (length (front ++ drop c xs) - (c + 1)) (front ++ drop c xs) back) ≡ front
around_front c xs front back there long =
    ap (λ l. take c l) (tail_is (c + 1) (once c xs front) back (omega (arith, once_long c xs front there long, there)))
    ∙ (take-append-le c (take (c + 1) (once c xs front)) back (omega (arith, head_long c xs front there long)) ∙ (take_twice (once c xs front) c (c + 1) (omega arith) ∙ take_front front (drop c xs) c long))

pub around_back : {X : Type 0} (c : ℕ) (xs front back : List X) → c < length xs → length front ≡ c → drop (c + 1) (put_mid (c + 1) (length (front ++ drop c xs) - (c + 1)) (front ++ drop c xs) back) ≡ back
around_back c xs front back there long =
    ap (λ l. drop (c + 1) l) (tail_is (c + 1) (once c xs front) back (omega (arith, once_long c xs front there long, there))) ∙ drop_front (take (c + 1) (once c xs front)) back (c + 1) (head_long c xs front there long)

-- What is seen of them.
pub seen_front : {X Y : Type 0} (see : X → Y) (c : ℕ) (xs front : List X) → take c xs ≡ front → take c (map see xs) ≡ map see front
seen_front see c xs front is = take-map see c xs ∙ ap (λ l. map see l) is

pub seen_back : {X Y : Type 0} (see : X → Y) (n : ℕ) (xs back : List X) → drop n xs ≡ back → drop n (map see xs) ≡ map see back
seen_back see n xs back is = drop-map see n xs ∙ ap (λ l. map see l) is

pub ok_same : {A E X : Type 0} (r : Result A E) (a b c : X) → a ≡ b → OnOk r (b ≡ c) → OnOk r (a ≡ c)
ok_same (Ok x) a b c same is = same ∙ is
ok_same (Err e) a b c same is = tt

pub ok_always : {A E X : Type 0} (r : Result A E) (a b : X) → a ≡ b → OnOk r (a ≡ b)
ok_always (Ok x) a b is = is
ok_always (Err e) a b is = tt
