-- Sums over lists.
use Rattle.std.proofs.Common.{◌≡◌, ℕ, ◌+◌, List, [], ◌∷◌, map, refl, sym, ap, ◌∙◌, arith}
use Rattle.std.specs.List.{sum_by}
use Rattle.std.proofs.lemmas.List.Sums.{sum_by-cons}

pub sum_by-map : {X Y : Type 0} (f : X → Y) (g : Y → ℕ) (xs : List X) → sum_by g (map f xs) ≡ sum_by (λ (x : X). g (f x)) xs
sum_by-map f g [] = refl
sum_by-map f g (x ∷ xs) = sum_by-cons g (f x) (map f xs) ∙ ap (λ (n : ℕ). g (f x) + n) (sum_by-map f g xs) ∙ sym (sum_by-cons (λ x. g (f x)) x xs)

pub swapped : (p q s t : ℕ) → (p + q) + (s + t) ≡ (p + s) + (q + t)
swapped p q s t = omega arith

pub turned : (p q s : ℕ) → p + (q + s) ≡ q + (p + s)
turned p q s = omega arith

pub sum_by-both : {X : Type 0} (f g : X → ℕ) (xs : List X) → sum_by (λ (x : X). f x + g x) xs ≡ sum_by f xs + sum_by g xs
sum_by-both f g [] = refl
sum_by-both f g (x ∷ xs) =
    sum_by-cons (λ x. f x + g x) x xs
    ∙ ap (λ (n : ℕ). (f x + g x) + n) (sum_by-both f g xs)
    ∙ swapped (f x) (g x) (sum_by f xs) (sum_by g xs)
    ∙ (λ j. sym (sum_by-cons f x xs) j + sym (sum_by-cons g x xs) j)

pub sum_by-none : {X : Type 0} (xs : List X) → sum_by (λ (x : X). 0) xs ≡ 0
sum_by-none [] = refl
sum_by-none (x ∷ xs) = sum_by-cons (λ x. 0) x xs ∙ ap (λ (n : ℕ). 0 + n) (sum_by-none xs)

-- A table of numbers has one sum, by rows and by columns.
pub exchanged : {X Y : Type 0} (f : X → Y → ℕ) (xs : List X) (ys : List Y)
    → sum_by (λ (x : X). sum_by (f x) ys) xs ≡ sum_by (λ (y : Y). sum_by (λ (x : X). f x y) xs) ys
exchanged f xs [] = sum_by-none xs
exchanged f xs (y ∷ ys) =
    (λ j. sum_by (λ x. sum_by-cons (f x) y ys j) xs)
    ∙ sum_by-both (λ x. f x y) (λ x. sum_by (f x) ys) xs
    ∙ ap (λ (n : ℕ). sum_by (λ x. f x y) xs + n) (exchanged f xs ys)
    ∙ sym (sum_by-cons (λ y. sum_by (λ x. f x y) xs) y ys)
