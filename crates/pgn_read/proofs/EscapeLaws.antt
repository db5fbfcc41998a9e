-- A value without a backslash has no escapes.
use Rattle.std.proofs.Common.{◌≡◌, ◌==◌, ◌||◌, ℕ, Bool, true, false, List, [], ◌∷◌, refl, ap}
use Rattle.std.specs.List.{list_any}
use Rattle.pgn_read.specs.TagText.{unescaped_from}

neither : (a b : Bool) → (a || b) ≡ false → (a ≡ false) × (b ≡ false)
neither true b is = absurd (cc)
neither false b is = (refl, is)

pub no_escapes : (raw : List ℕ) → list_any (λ byte. byte == 92) raw ≡ false → unescaped_from false raw ≡ raw
no_escapes [] none = refl
no_escapes (byte ∷ raw) none =
    let parts = neither (byte == 92) (list_any (λ other. other == 92) raw) none in
    rw parts.0 (ap (λ rest. byte ∷ rest) (no_escapes raw parts.1))
