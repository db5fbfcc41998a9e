-- No byte of a text is zero, as a test and as a fact.
use Rattle.std.proofs.Common.{◌≡◌, ◌↔◌, ℕ, Bool, true, not, List, [], ◌∷◌, IsTrue, refl}
use Rattle.std.specs.Prelude.{◌≢◌, ◌==◌}
use Rattle.std.specs.Bool.{one_answer}
use Rattle.std.specs.List.{list_all}
use Rattle.std.proofs.lemmas.Bool.{and_parts, and_from, eqb-false, ne_eqb, not-true, not_from_false}
use Rattle.std.proofs.lemmas.List.Elements.{All-nil, All-cons, All-head, All-tail}
use Rattle.cell_core.specs.Text.{IsZeroFree}

pub zero_free-from_test : (bytes : List ℕ) → list_all (λ byte. not (byte == 0)) bytes ≡ true → IsZeroFree bytes
zero_free-from_test [] h = All-nil (λ (byte : ℕ). byte ≢ 0)
zero_free-from_test (byte ∷ bytes) h =
    let p = and_parts (not (byte == 0)) (list_all (λ byte. not (byte == 0)) bytes) h in
    All-cons (λ (byte : ℕ). byte ≢ 0) byte bytes (eqb-false byte 0 (not-true (byte == 0) p.0)) (zero_free-from_test bytes p.1)

test-from_zero_free : (bytes : List ℕ) → IsZeroFree bytes → list_all (λ byte. not (byte == 0)) bytes ≡ true
test-from_zero_free [] h = refl
test-from_zero_free (byte ∷ bytes) h =
    and_from (not (byte == 0)) (list_all (λ byte. not (byte == 0)) bytes)
    (not_from_false (byte == 0) (ne_eqb byte 0 (All-head (λ (byte : ℕ). byte ≢ 0) byte bytes h)))
    (test-from_zero_free bytes (All-tail (λ (byte : ℕ). byte ≢ 0) byte bytes h))

pub zero_free_test : (bytes : List ℕ) (answer : Bool) → (IsTrue answer ↔ IsZeroFree bytes) → answer ≡ list_all (λ byte. not (byte == 0)) bytes
zero_free_test bytes answer h =
    one_answer answer (list_all (λ byte. not (byte == 0)) bytes) h (zero_free-from_test bytes, test-from_zero_free bytes)
