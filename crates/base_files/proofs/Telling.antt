-- Laws of what is told: adding and taking in steps, and what may have been added at most.
use Rattle.std.proofs.Common.{◌≡◌, ℕ, List, [], ◌++◌, Option, None, Some, refl, sym, ap, ◌∙◌, append_assoc, append-nil}
use Rattle.base_files.specs.Told.{adds, before, Grew, Advanced}

-- Nothing added.
pub adds-nil : (told : Option (List ℕ)) → adds told [] ≡ told
adds-nil None = refl
adds-nil (Some told) = ap (λ (l : List ℕ). Some l) (append-nil told)

-- Bytes added one after the other are added together.
pub adds-append : (told : Option (List ℕ)) (xs ys : List ℕ) → adds told (xs ++ ys) ≡ adds (adds told xs) ys
adds-append None xs ys = refl
adds-append (Some told) xs ys = ap (λ (l : List ℕ). Some l) (sym (append_assoc told xs ys))

-- Nothing in front.
pub before-nil : (told : Option (List ℕ)) → before [] told ≡ told
before-nil None = refl
before-nil (Some told) = refl

-- Bytes in front, one after the other.
pub before-append : (xs ys : List ℕ) (told : Option (List ℕ)) → before (xs ++ ys) told ≡ before xs (before ys told)
before-append xs ys None = refl
before-append xs ys (Some told) = ap (λ (l : List ℕ). Some l) (append_assoc xs ys told)

-- What is told grew where it is the same.
pub Grew-refl : (told : Option (List ℕ)) → Grew told told
Grew-refl None = tt
Grew-refl (Some told) = ([], sym (append-nil told))

-- What is told grew where bytes were added.
pub Grew-adds : (told : Option (List ℕ)) (bytes : List ℕ) → Grew told (adds told bytes)
Grew-adds None bytes = tt
Grew-adds (Some told) bytes = (bytes, refl)

-- What grew twice grew.
pub Grew-trans : (a b c : Option (List ℕ)) → Grew a b → Grew b c → Grew a c
Grew-trans None None None p q = tt
Grew-trans None None (Some z) p q = absurd q
Grew-trans None (Some y) c p q = absurd p
Grew-trans (Some x) None c p q = absurd p
Grew-trans (Some x) (Some y) None p q = absurd q
Grew-trans (Some x) (Some y) (Some z) p q = (p.0 ++ q.0, q.1 ∙ ap (λ (l : List ℕ). l ++ q.0) p.1 ∙ append_assoc x p.0 q.0)

-- What is told advanced where bytes were taken from its front.
pub advances : (bytes : List ℕ) (old new : Option (List ℕ)) → old ≡ before bytes new → Advanced old new
advances bytes None None taken = tt
advances bytes None (Some new) taken = cc
advances bytes (Some old) None taken = cc
advances bytes (Some old) (Some new) taken = (bytes, cc)

-- What is told advanced where bytes were taken from its front twice.
pub advances_twice : (xs ys : List ℕ) (a b c : Option (List ℕ)) → a ≡ before xs b → b ≡ before ys c → Advanced a c
advances_twice xs ys a b c first second =
    advances (xs ++ ys) a c (first ∙ ap (before xs) second ∙ sym (before-append xs ys c))
