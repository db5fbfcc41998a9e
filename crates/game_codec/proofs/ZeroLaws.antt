-- A zero byte ends a text in one place.
use Rattle.std.proofs.Common.{◌≡◌, ◌≢◌, ℕ, List, [], ◌∷◌, ◌++◌, refl}
use Rattle.std.proofs.lemmas.List.Elements.{All-head, All-tail}
use Rattle.cell_core.specs.Text.{IsZeroFree}

pub text_ends-one : (a b r s : List ℕ) → IsZeroFree a → IsZeroFree b → a ++ 0 ∷ r ≡ b ++ 0 ∷ s → (a ≡ b) × (r ≡ s)
text_ends-one [] [] r s free free' e = (refl, cc)
text_ends-one [] (y ∷ b) r s free free' e = absurd (All-head (λ byte. byte ≢ 0) y b free' (cc))
text_ends-one (x ∷ a) [] r s free free' e = absurd (All-head (λ byte. byte ≢ 0) x a free (cc))
text_ends-one (x ∷ a) (y ∷ b) r s free free' e =
    let i = text_ends-one a b r s (All-tail (λ byte. byte ≢ 0) x a free) (All-tail (λ byte. byte ≢ 0) y b free') (cc) in
    (cc, i.1)

pub text_ends-zero : (a r : List ℕ) → IsZeroFree (a ++ 0 ∷ r) → ⊥
text_ends-zero [] r free = All-head (λ byte. byte ≢ 0) 0 r free refl
text_ends-zero (x ∷ a) r free = text_ends-zero a r (All-tail (λ byte. byte ≢ 0) x (a ++ 0 ∷ r) free)
