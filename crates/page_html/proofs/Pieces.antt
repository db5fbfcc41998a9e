-- Pieces of a text, one behind the other.
use Rattle.std.proofs.Common.{◌≡◌, ◌++◌, ℕ, List, append_assoc, ap, ◌∙◌}

pub three : (out a b c x y : List ℕ) → x ≡ out ++ a → y ≡ x ++ b → y ++ c ≡ out ++ (a ++ (b ++ c))
three out a b c x y first second =
    ap (λ (l : List ℕ). l ++ c) (second ∙ ap (λ (l : List ℕ). l ++ b) first) ∙ append_assoc (out ++ a) b c ∙ append_assoc out a (b ++ c)

-- A text that ends with a part, and two more behind it.
pub two_behind : (front a b c x y z : List ℕ) → x ≡ front ++ a → y ≡ x ++ b → z ≡ y ++ c → z ≡ front ++ (a ++ (b ++ c))
two_behind front a b c x y z first second third = third ∙ three front a b c x y first second
