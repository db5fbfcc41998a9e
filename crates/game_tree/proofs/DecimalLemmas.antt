-- Reading numbers in decimal digits.
use Rattle.std.proofs.Common.{◌≡◌, ℕ, ◌+◌, ◌-◌, ◌*◌, ◌%◌, ◌^◌, ◌<◌, ◌≤◌, true, List, [], ◌∷◌, ◌++◌, Some, length, take, drop, get_or, append-nil, append_assoc, false, refl, sym, ap, subst, ◌∙◌, inl, inr, arith, ◌/◌, replicate}
use Rattle.std.specs.Prelude.{◌&&◌, ◌==◌, nat_le, if◌then◌else◌, fold}
use Rattle.std.specs.List.{list_all}
use Rattle.std.specs.Char.{is_ascii_digit}
use Rattle.std.specs.Fmt.{decimal}
use Rattle.std.proofs.lemmas.Bool.{cases_Bool, and_from, and_parts, le-leb, leb-true, eqb-true, eqb-false, ne_eqb}
use Rattle.std.proofs.lemmas.Fmt.{decimal_by_steps, decimal_digit, decimal_step}
use Rattle.std.proofs.lemmas.Option.{same_Some, none-some}
use Rattle.std.proofs.lemmas.List.{take-append-drop, length-append, length-replicate, replicate_more}
use Rattle.std.proofs.lemmas.List.Folds.{list_all-append}
use Rattle.std.proofs.lemmas.List.Sums.{fold-append, fold_more}
use Rattle.game_tree.specs.Decimal.{decimal_value, decimal_read, IsPadded}

-- A number only grows with more digits.
value_grows : (n : ℕ) (digits : List ℕ) → n ≤ fold (λ number digit. 10 * number + (digit - 48)) n digits
value_grows n [] = omega arith
value_grows n (d ∷ digits) = let rest = value_grows (10 * n + (d - 48)) digits in omega arith

pub value-take : (i : ℕ) (digits : List ℕ) → decimal_value (take i digits) ≤ decimal_value digits
value-take i digits =
    let whole = fold-append (λ number digit. 10 * number + (digit - 48)) 0 (take i digits) (drop i digits) in
    let grows = value_grows (decimal_value (take i digits)) (drop i digits) in
    let e : decimal_value (take i digits ++ drop i digits) ≡ decimal_value digits = ap decimal_value (take-append-drop i digits) in
    omega arith

-- The number of the first digits, which is at most the limit.
pub record IsValue (limit : ℕ) (digits : List ℕ) (number : ℕ) : Type 0 where
  pub value : number ≡ decimal_value digits
  pub within : number ≤ limit

-- One digit more goes past the limit, so the whole number does.
pub value_over : (limit number : ℕ) (digits : List ℕ) (i d : ℕ) → i < length digits → IsValue limit (take i digits) number
    → limit < 10 * number + (get_or digits i d - 48) → limit < decimal_value digits
value_over limit number digits i d within is over =
    let step = fold_more (λ number digit. 10 * number + (digit - 48)) 0 digits i d within in
    let least = value-take (i + 1) digits in
    let value = is.value in
    omega arith

pub decimal_read-bound : (limit : ℕ) (text : List ℕ) (n : ℕ) → decimal_read limit text ≡ Some n → n ≤ limit
unfolding decimal_read
decimal_read-bound limit text n e =
    elim (cases_Bool (nat_le 1 (length text) && list_all is_ascii_digit text && nat_le (decimal_value text) limit)) [
      | inl reads ↦
          let within = leb-true (decimal_value text) limit (and_parts (nat_le 1 (length text) && list_all is_ascii_digit text) (nat_le (decimal_value text) limit) reads).1 in
          omega (arith, within, same_Some (decimal_value text) n (rw reads at e))
      | inr other ↦ absurd (none-some n (rw other at e))
    ]

-- What the text of a number is.
record Writes (n : ℕ) (text : List ℕ) : Type 0 where
  some : 1 ≤ length text
  digits : list_all is_ascii_digit text ≡ true
  value : decimal_value text ≡ n

is_digit : (n : ℕ) → n < 10 → is_ascii_digit (48 + n) ≡ true
is_digit n small = and_from _ _ (le-leb 48 (48 + n) (omega arith)) (le-leb (48 + n) 57 (omega arith))

writes : (n : ℕ) → n < 2 ^ 64 → Writes n (decimal n)
writes = decimal_by_steps Writes
    (λ n small. record { some = omega arith; digits = rw (is_digit n small) refl; value = omega arith })
    (λ n digits many front. let value = front.value in record {
      some = omega (arith, length-append digits ((48 + n % 10) ∷ []));
      digits = list_all-append is_ascii_digit digits ((48 + n % 10) ∷ []) ∙ rw (front.digits, is_digit (n % 10) (omega arith)) refl;
      value = fold-append (λ number digit. 10 * number + (digit - 48)) 0 digits ((48 + n % 10) ∷ []) ∙ omega arith;
    })

pub decimal_read-decimal : (limit : ℕ) (text : List ℕ) (n : ℕ) → limit < 2 ^ 64 → n ≤ limit → text ≡ decimal n → decimal_read limit text ≡ Some n
unfolding decimal_read
decimal_read-decimal limit text n small within is =
    let w = writes n (omega arith) in
    rw (is, le-leb 1 (length (decimal n)) w.some, w.digits, w.value, le-leb n limit within) refl

-- ---- digits are zeros and then the text of their number

-- The text of a number, which is empty for zero.
abbrev shown_number : ℕ → List ℕ
shown_number number = if number == 0 then [] else decimal number

-- The first digits: zeros, and then their number.
record IsBegun (digits : List ℕ) (number : ℕ) : Type 0 where
  zeros : ℕ
  is : digits ≡ replicate zeros 48 ++ shown_number number

one_more : (digits : List ℕ) (number d : ℕ) → d < 10 → 10 * number + d < 2 ^ 64 → IsBegun digits number → IsBegun (digits ++ (48 + d) ∷ []) (10 * number + d)
one_more digits number d small fits begun =
    elim (cases_Bool (number == 0)) [
      | inl zero ↦
          let none = eqb-true number 0 zero in
          let front : digits ≡ replicate begun.zeros 48 = begun.is ∙ rw zero (append-nil (replicate begun.zeros 48)) in
          let same : 10 * number + d ≡ d = omega arith in
          elim (cases_Bool (d == 0)) [
            | inl last ↦
                let e = eqb-true d 0 last in
                record {
                  zeros = begun.zeros + 1;
                  is = rw (front, same, last, e) (replicate_more begun.zeros 48 ∙ sym (append-nil (replicate (begun.zeros + 1) 48)));
                }
            | inr first ↦
                record { zeros = begun.zeros; is = rw (front, same, first, decimal_digit d small) refl }
          ]
      | inr some ↦
          let positive = eqb-false number 0 some in
          let more : (10 * number + d == 0) ≡ false = ne_eqb (10 * number + d) 0 (λ e. omega arith) in
          let front : (10 * number + d) / 10 ≡ number = omega arith in
          let last : (10 * number + d) % 10 ≡ d = omega arith in
          let step : decimal (10 * number + d) ≡ decimal number ++ (48 + d) ∷ [] = decimal_step (10 * number + d) (omega arith) fits ∙ rw (front, last) refl in
          record {
            zeros = begun.zeros;
            is = rw (more, step) (ap (λ (ds : List ℕ). ds ++ (48 + d) ∷ []) (begun.is ∙ rw some refl) ∙ append_assoc (replicate begun.zeros 48) (decimal number) ((48 + d) ∷ []));
          }
    ]

all_digits : (rest digits : List ℕ) (number : ℕ) → list_all is_ascii_digit rest ≡ true
    → fold (λ number digit. 10 * number + (digit - 48)) number rest < 2 ^ 64 → IsBegun digits number
    → IsBegun (digits ++ rest) (fold (λ number digit. 10 * number + (digit - 48)) number rest)
all_digits [] digits number are fits begun = rw (append-nil digits) begun
all_digits (c ∷ rest) digits number are fits begun =
    let parts = and_parts (is_ascii_digit c) (list_all is_ascii_digit rest) are in
    let range = and_parts (nat_le 48 c) (nat_le c 57) parts.0 in
    let above = leb-true 48 c range.0 in
    let below = leb-true c 57 range.1 in
    let least = value_grows (10 * number + (c - 48)) rest in
    let back : 48 + (c - 48) ≡ c = omega arith in
    let begun' : IsBegun (digits ++ (48 + (c - 48)) ∷ []) (10 * number + (c - 48)) = one_more digits number (c - 48) (omega arith) (omega arith) begun in
    let whole = all_digits rest (digits ++ (48 + (c - 48)) ∷ []) (10 * number + (c - 48)) parts.1 fits begun' in
    let joined : (digits ++ (48 + (c - 48)) ∷ []) ++ rest ≡ digits ++ c ∷ rest = append_assoc digits ((48 + (c - 48)) ∷ []) rest ∙ rw back refl in
    subst (λ (ds : List ℕ). IsBegun ds (fold (λ number digit. 10 * number + (digit - 48)) (10 * number + (c - 48)) rest)) joined whole

padded-begun : (text : List ℕ) (number : ℕ) → 1 ≤ length text → IsBegun text number → IsPadded text number
padded-begun text number some begun =
    elim (cases_Bool (number == 0)) [
      | inl zero ↦
          let none = eqb-true number 0 zero in
          let front : text ≡ replicate begun.zeros 48 = begun.is ∙ rw zero (append-nil (replicate begun.zeros 48)) in
          let size : length text ≡ begun.zeros = ap length front ∙ length-replicate begun.zeros 48 in
          let one : begun.zeros - 1 + 1 ≡ begun.zeros = omega arith in
          (begun.zeros - 1, front ∙ ap (λ (n : ℕ). replicate n 48) (sym one) ∙ sym (replicate_more (begun.zeros - 1) 48) ∙ rw (none, decimal_digit 0 (omega arith)) refl)
      | inr more ↦ (begun.zeros, begun.is ∙ rw more refl)
    ]

pub decimal_read-padded : (limit : ℕ) (text : List ℕ) (n : ℕ) → limit < 2 ^ 64 → decimal_read limit text ≡ Some n → IsPadded text n
unfolding decimal_read
decimal_read-padded limit text n small e =
    elim (cases_Bool (nat_le 1 (length text) && list_all is_ascii_digit text && nat_le (decimal_value text) limit)) [
      | inl reads ↦
          let p = and_parts (nat_le 1 (length text) && list_all is_ascii_digit text) (nat_le (decimal_value text) limit) reads in
          let q = and_parts (nat_le 1 (length text)) (list_all is_ascii_digit text) p.0 in
          let within = leb-true (decimal_value text) limit p.1 in
          subst (IsPadded text) (same_Some (decimal_value text) n (rw reads at e))
          (padded-begun text (decimal_value text) (leb-true 1 (length text) q.0)
          (all_digits text [] 0 q.1 (omega arith) (record { zeros = 0; is = refl })))
      | inr other ↦ absurd (none-some n (rw other at e))
    ]

pub ruleset reading = (decimal_read-bound, decimal_read-decimal, decimal_read-padded)
