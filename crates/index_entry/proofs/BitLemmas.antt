-- The number that a run of places spells, by the big-endian number of the bytes around it.
use Rattle.std.proofs.Common.{◌≡◌, ◌≤◌, ◌<◌, ◌+◌, ◌-◌, ◌*◌, ◌^◌, ◌/◌, ◌%◌, ℕ, zero, suc, List, [], ◌∷◌, ◌++◌, length, drop, get_or, refl, sym, ap, subst, ◌∙◌, arith, inl, inr}
use Rattle.std.proofs.lemmas.List.{length-append, get_or-drop}
use Rattle.std.proofs.lemmas.Nat.{pow-add, shr-shr, mod-pow-add}
use Rattle.std.proofs.lemmas.Nat.Bits.{bit_at_cat_low, bit_at_cat_high}
use Rattle.std.proofs.lemmas.Bool.{cases_lt}
use Rattle.std.specs.Int.{bit_at}
use Rattle.byteorder.specs.Endian.{big_from}
use Rattle.byteorder.specs.Numbers.{big_from-lt}
use Rattle.std.specs.List.{range_with_len}
use Rattle.index_entry.specs.Bits.{bit_in, field}

-- A list of bytes.
abbrev pub IsBytes : List ℕ → Type 0
IsBytes bytes = (i : ℕ) → get_or bytes i 0 < 256

pub IsBytes-drop : (n : ℕ) (bytes : List ℕ) → IsBytes bytes → IsBytes (drop n bytes)
IsBytes-drop n bytes h i = rw get_or-drop (h (n + i))

pub pow_256 : (m : ℕ) → 256 ^ m ≡ 2 ^ (8 * m)
pow_256 zero = refl
pow_256 (suc m) =
    let split : 2 ^ (8 * suc m) ≡ 2 ^ 8 * 2 ^ (8 * m) = ap (λ n. 2 ^ n) (omega arith) ∙ pow-add 2 8 (8 * m) in
    let here : 256 ^ suc m ≡ 256 ^ 1 * 256 ^ m = ap (λ n. 256 ^ n) (omega arith) ∙ pow-add 256 1 m in
    here ∙ ap (λ n. 256 * n) (pow_256 m) ∙ sym split

pub length-run : (p n : ℕ) → length (range_with_len p n) ≡ n
length-run p zero = refl
length-run p (suc n) = ap suc (length-run (p + 1) n)

first_of_byte : (bytes : List ℕ) (k p q m : ℕ) → 8 * k ≤ p → p < 8 * suc k → p + suc q ≡ 8 * (k + suc m) → bit_in bytes p ≡ bit_at (get_or bytes k 0) (q - 8 * m)
first_of_byte bytes k p q m low lt e =
    let byte : p / 8 ≡ k = omega arith in
    let place : 7 - p % 8 ≡ q - 8 * m = omega arith in
    rw (byte, place) refl

-- A bit of the number is a bit of its byte.
pub bit_of_number : (bytes : List ℕ) (k m p q : ℕ) → IsBytes bytes → 8 * k ≤ p → p + suc q ≡ 8 * (k + m) → bit_in bytes p ≡ bit_at (big_from k m bytes) q
bit_of_number bytes k zero p q h low e = absurd (omega arith)
bit_of_number bytes k (suc m) p q h low e =
    let small : big_from (suc k) m bytes < 2 ^ (8 * m) = subst (λ n. big_from (suc k) m bytes < n) (pow_256 m) (big_from-lt (suc k) m bytes h) in
    let whole : bit_in bytes p ≡ bit_at (get_or bytes k 0 * 2 ^ (8 * m) + big_from (suc k) m bytes) q =
    elim (cases_lt p (8 * suc k)) [
      | inl lt ↦ first_of_byte bytes k p q m low lt (omega arith) ∙ sym (bit_at_cat_high (get_or bytes k 0) (8 * m) (big_from (suc k) m bytes) q small (omega arith))
      | inr ge ↦ bit_of_number bytes (suc k) m p q h ge (omega arith) ∙ sym (bit_at_cat_low (get_or bytes k 0) (8 * m) (big_from (suc k) m bytes) q (omega arith))
    ] in
    whole ∙ ap (λ n. bit_at (get_or bytes k 0 * n + big_from (suc k) m bytes) q) (sym (pow_256 m))

-- The bits of a run are those of the number, without the lowest.
pub field-run : (bytes : List ℕ) (k m p n lo : ℕ) → IsBytes bytes → 8 * k ≤ p → p + n + lo ≡ 8 * (k + m) → field bytes (range_with_len p n) ≡ big_from k m bytes / 2 ^ lo % 2 ^ n
unfolding field
field-run bytes k m p zero lo h low e = omega arith
field-run bytes k m p (suc n) lo h low e =
    let rest : field bytes (range_with_len (p + 1) n) ≡ big_from k m bytes / 2 ^ lo % 2 ^ n = field-run bytes k m (p + 1) n lo h (omega arith) (omega arith) in
    let bit : bit_in bytes p ≡ bit_at (big_from k m bytes) (lo + n) = bit_of_number bytes k m p (lo + n) h low (omega arith) in
    let split : big_from k m bytes / 2 ^ lo % 2 ^ (1 + n) ≡ (big_from k m bytes / 2 ^ lo / 2 ^ n % 2 ^ 1) * 2 ^ n + big_from k m bytes / 2 ^ lo % 2 ^ n =
    mod-pow-add (big_from k m bytes / 2 ^ lo) 1 n in
    let sum : bit_in bytes p * 2 ^ length (range_with_len (p + 1) n) + field bytes (range_with_len (p + 1) n) ≡ (big_from k m bytes / 2 ^ (lo + n) % 2) * 2 ^ n + big_from k m bytes / 2 ^ lo % 2 ^ n =
    rw (length-run (p + 1) n, bit, rest) refl in
    sum ∙ rw (shr-shr (big_from k m bytes) lo n) at (sym split) ∙ ap (λ i. big_from k m bytes / 2 ^ lo % 2 ^ i) (omega arith)

-- Places side by side.
pub field-append : (bytes xs ys : List ℕ) → field bytes (xs ++ ys) ≡ field bytes xs * 2 ^ length ys + field bytes ys
unfolding field
field-append bytes [] ys = omega arith
field-append bytes (p ∷ xs) ys =
    let rest : field bytes (xs ++ ys) ≡ field bytes xs * 2 ^ length ys + field bytes ys = field-append bytes xs ys in
    let power : 2 ^ length (xs ++ ys) ≡ 2 ^ length xs * 2 ^ length ys = ap (λ n. 2 ^ n) (length-append xs ys) ∙ pow-add 2 (length xs) (length ys) in
    let here : field bytes (p ∷ (xs ++ ys)) ≡ bit_in bytes p * (2 ^ length xs * 2 ^ length ys) + (field bytes xs * 2 ^ length ys + field bytes ys) =
    rw (power, rest) refl in
    here ∙ grind arith
