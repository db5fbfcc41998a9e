-- The text of an opening code is read as its number, and a text that is read is that of its number.
use Rattle.std.proofs.Common.{◌≡◌, ℕ, ◌+◌, ◌-◌, ◌*◌, ◌/◌, ◌%◌, ◌≤◌, zero, suc, true, false, eqb, List, [], ◌∷◌, Option, Some, None, refl, subst, inl, inr, arith}
use Rattle.std.specs.Prelude.{◌&&◌, nat_le}
use Rattle.std.proofs.Math.Nat.{div-div-eq-div-mul}
use Rattle.std.proofs.lemmas.Bool.{cases_Bool, and_from, and_parts, le-leb, leb-true, eqb-true, eqb-false, ne_eqb}
use Rattle.std.proofs.lemmas.Option.{same_Some, none-some}
use Rattle.std.specs.Option.{option_map}
use Rattle.game_tree.specs.Eco.{eco_number, extension_text, eco_text, is_from, extension_read, eco_read}

from_is : (low high byte : ℕ) → low ≤ byte → byte ≤ high → is_from low high byte ≡ true
from_is low high byte above below = and_from _ _ (le-leb low byte above) (le-leb byte high below)

from_tells : (low high byte : ℕ) → is_from low high byte ≡ true → (low ≤ byte) × (byte ≤ high)
from_tells low high byte h =
    let p = and_parts (nat_le low byte) (nat_le byte high) h in
    (leb-true low byte p.0, leb-true byte high p.1)

-- ---- written, then read

extension-reads : (n : ℕ) → n ≤ 130 → extension_read (extension_text n) ≡ Some n
extension-reads zero small = refl
extension-reads (suc n) small =
    let letter = from_is 97 122 (97 + n / 5) (omega arith) (omega arith) in
    elim (cases_Bool (eqb (n % 5) 0)) [
      | inl none ↦
          let even = eqb-true (n % 5) 0 none in
          let e : 1 + 5 * (97 + n / 5 - 97) ≡ suc n = omega arith in
          rw (none, letter, e) refl
      | inr some ↦
          let odd = eqb-false (n % 5) 0 some in
          let digit = from_is 49 52 (48 + n % 5) (omega arith) (omega arith) in
          let e : 1 + 5 * (97 + n / 5 - 97) + (48 + n % 5 - 48) ≡ suc n = omega arith in
          rw (some, letter, digit, e) refl
    ]

pub eco_read-eco_text : (n : ℕ) → 1 ≤ n → n ≤ 65500 → eco_read (eco_text n) ≡ Some n
unfolding eco_read eco_text
eco_read-eco_text zero some small = absurd (omega arith)
eco_read-eco_text (suc n) some small =
    let first : n / 1310 / 10 ≡ n / 13100 = div-div-eq-div-mul n 1310 10 in
    let second : n / 131 / 10 ≡ n / 1310 = div-div-eq-div-mul n 131 10 in
    let letter = from_is 65 69 (65 + n / 13100) (omega arith) (omega arith) in
    let tens = from_is 48 57 (48 + n / 1310 % 10) (omega arith) (omega arith) in
    let units = from_is 48 57 (48 + n / 131 % 10) (omega arith) (omega arith) in
    let extension = extension-reads (n % 131) (omega arith) in
    let e : eco_number (65 + n / 13100 - 65) (48 + n / 1310 % 10 - 48) (48 + n / 131 % 10 - 48) (n % 131) ≡ suc n = omega arith in
    rw (letter, tens, units, extension, e) refl

-- ---- read, then written

record Extends (text : List ℕ) (n : ℕ) : Type 0 where
  bound : n ≤ 130
  written : extension_text n ≡ text

with_letter : (letter : ℕ) → 97 ≤ letter → letter ≤ 122 → Extends (letter ∷ []) (1 + 5 * (letter - 97))
with_letter letter a b =
    let k : ℕ = 5 * (letter - 97) in
    let same : 1 + 5 * (letter - 97) ≡ suc k = omega arith in
    let front : 97 + k / 5 ≡ letter = omega arith in
    let none : k % 5 ≡ 0 = omega arith in
    rw same (record { bound = omega arith; written = rw (none, front) refl })

with_digit : (letter digit : ℕ) → 97 ≤ letter → letter ≤ 122 → 49 ≤ digit → digit ≤ 52
    → Extends (letter ∷ digit ∷ []) (1 + 5 * (letter - 97) + (digit - 48))
with_digit letter digit a b c d =
    let k : ℕ = 5 * (letter - 97) + (digit - 48) in
    let same : 1 + 5 * (letter - 97) + (digit - 48) ≡ suc k = omega arith in
    let front : 97 + k / 5 ≡ letter = omega arith in
    let some : eqb (k % 5) 0 ≡ false = ne_eqb (k % 5) 0 (λ e. omega arith) in
    let back : 48 + k % 5 ≡ digit = omega arith in
    rw same (record { bound = omega arith; written = rw (some, front, back) refl })

extension-written : (text : List ℕ) (n : ℕ) → extension_read text ≡ Some n → Extends text n
extension-written [] n e = subst (Extends []) (same_Some 0 n e) (record { bound = omega arith; written = refl })
extension-written (letter ∷ []) n e =
    elim (cases_Bool (is_from 97 122 letter)) [
      | inl is ↦
          let range = from_tells 97 122 letter is in
          subst (Extends (letter ∷ [])) (same_Some (1 + 5 * (letter - 97)) n (rw is at e)) (with_letter letter range.0 range.1)
      | inr other ↦ absurd (none-some n (rw other at e))
    ]
extension-written (letter ∷ digit ∷ []) n e =
    elim (cases_Bool (is_from 97 122 letter && is_from 49 52 digit)) [
      | inl is ↦
          let p = and_parts (is_from 97 122 letter) (is_from 49 52 digit) is in
          let range = from_tells 97 122 letter p.0 in
          let digits = from_tells 49 52 digit p.1 in
          subst (Extends (letter ∷ digit ∷ [])) (same_Some (1 + 5 * (letter - 97) + (digit - 48)) n (rw is at e))
          (with_digit letter digit range.0 range.1 digits.0 digits.1)
      | inr other ↦ absurd (none-some n (rw other at e))
    ]
extension-written (letter ∷ digit ∷ other ∷ others) n e = absurd (none-some n e)

-- What a text that reads as a number is.
pub record IsCode (text : List ℕ) (n : ℕ) : Type 0 where
  pub some : 1 ≤ n
  pub bound : n ≤ 65500
  pub written : eco_text n ≡ text

code-is : (l t u : ℕ) (extension : List ℕ) (n : ℕ) → l ≤ 4 → t ≤ 9 → u ≤ 9 → Extends extension n
    → IsCode ((65 + l) ∷ (48 + t) ∷ (48 + u) ∷ extension) (eco_number l t u n)
unfolding eco_text
code-is l t u extension n letter tens units is =
    let bound = is.bound in
    let k : ℕ = 13100 * l + 1310 * t + 131 * u + n in
    let same : eco_number l t u n ≡ suc k = omega arith in
    let first : k / 13100 ≡ l = omega arith in
    let second : k / 1310 % 10 ≡ t = omega arith in
    let third : k / 131 % 10 ≡ u = omega arith in
    let last : k % 131 ≡ n = omega arith in
    rw same (record { some = omega arith; bound = omega arith; written = rw (first, second, third, last, is.written) refl })

with_extension : (l t u : ℕ) (extension : List ℕ) (found : Option ℕ) (n : ℕ) → extension_read extension ≡ found
    → l ≤ 4 → t ≤ 9 → u ≤ 9 → option_map (λ m. eco_number l t u m) found ≡ Some n
    → IsCode ((65 + l) ∷ (48 + t) ∷ (48 + u) ∷ extension) n
with_extension l t u extension None n read letter tens units e = absurd (none-some n e)
with_extension l t u extension (Some m) n read letter tens units e =
    subst (IsCode ((65 + l) ∷ (48 + t) ∷ (48 + u) ∷ extension)) (same_Some (eco_number l t u m) n e)
    (code-is l t u extension m letter tens units (extension-written extension m read))

pub eco_read-is : (text : List ℕ) (n : ℕ) → eco_read text ≡ Some n → IsCode text n
unfolding eco_read
eco_read-is [] n e = absurd (none-some n e)
eco_read-is (l ∷ []) n e = absurd (none-some n e)
eco_read-is (l ∷ t ∷ []) n e = absurd (none-some n e)
eco_read-is (l ∷ t ∷ u ∷ extension) n e =
    elim (cases_Bool (is_from 65 69 l && is_from 48 57 t && is_from 48 57 u)) [
      | inl is ↦
          let p = and_parts (is_from 65 69 l && is_from 48 57 t) (is_from 48 57 u) is in
          let q = and_parts (is_from 65 69 l) (is_from 48 57 t) p.0 in
          let letter = from_tells 65 69 l q.0 in
          let tens = from_tells 48 57 t q.1 in
          let units = from_tells 48 57 u p.1 in
          let code = with_extension (l - 65) (t - 48) (u - 48) extension (extension_read extension) n refl (omega arith) (omega arith) (omega arith) (rw is at e) in
          let one : 65 + (l - 65) ≡ l = omega arith in
          let two : 48 + (t - 48) ≡ t = omega arith in
          let three : 48 + (u - 48) ≡ u = omega arith in
          rw (one, two, three) at code
      | inr other ↦ absurd (none-some n (rw other at e))
    ]

pub eco_text-eco_read : (text : List ℕ) (n : ℕ) → eco_read text ≡ Some n → eco_text n ≡ text
eco_text-eco_read text n e = (eco_read-is text n e).written

pub eco_read-some : (text : List ℕ) (n : ℕ) → eco_read text ≡ Some n → 1 ≤ n
eco_read-some text n e = (eco_read-is text n e).some

pub eco_read-bound : (text : List ℕ) (n : ℕ) → eco_read text ≡ Some n → n ≤ 65500
eco_read-bound text n e = (eco_read-is text n e).bound

pub ruleset reading_back = (eco_read-eco_text, eco_text-eco_read, eco_read-some, eco_read-bound)
