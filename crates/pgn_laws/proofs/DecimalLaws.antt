-- The text of a number: digits, one at least.
use Rattle.std.proofs.Common.{◌≡◌, ◌+◌, ◌<◌, ◌/◌, ◌%◌, ◌==◌, nat_lt, ℕ, zero, suc, Bool, true, false, cond, List, [], ◌∷◌, refl, arith}
use Rattle.std.specs.List.{list_all}
use Rattle.std.specs.Char.{is_ascii_digit}
use Rattle.std.specs.Fmt.{decimal, digits, digits_onto, digit_glyph}
use Rattle.pgn_laws.proofs.RunLaws.{digit_byte}

-- A digit and more digits.
pub record IsNumber (text : List ℕ) : Type 0 where
  pub first : ℕ
  pub more : List ℕ
  pub is : text ≡ first ∷ more
  pub digit : is_ascii_digit first ≡ true
  pub digits : list_all is_ascii_digit more ≡ true

glyph_digit : (n : ℕ) → is_ascii_digit (digit_glyph false (n % 10)) ≡ true
glyph_digit n =
    let small : n % 10 < 10 = omega arith in
    let under : nat_lt (n % 10) 10 ≡ true = search (arith, small) in
    rw under (digit_byte (48 + n % 10) (omega (arith, small)) (omega (arith, small)))

onto_chosen : (c : Bool) (a b : List ℕ) → IsNumber a → IsNumber b → IsNumber (cond c a b)
onto_chosen true a b p q = p
onto_chosen false a b p q = q

led_by : (byte : ℕ) (acc : List ℕ) → is_ascii_digit byte ≡ true → list_all is_ascii_digit acc ≡ true → IsNumber (byte ∷ acc)
led_by byte acc digit all = record { first = byte; more = acc; is = refl; digit = digit; digits = all }

onto : (k n : ℕ) (acc : List ℕ) → list_all is_ascii_digit acc ≡ true → IsNumber (digits_onto (suc k) 10 false n acc)
onto zero n acc all =
    onto_chosen (n / 10 == 0) _ _ (led_by _ acc (glyph_digit n) all) (led_by _ acc (glyph_digit n) all)
onto (suc k) n acc all =
    onto_chosen (n / 10 == 0) _ _ (led_by _ acc (glyph_digit n) all)
    (onto k (n / 10) (digit_glyph false (n % 10) ∷ acc) (rw (glyph_digit n) all))

pub decimal_number : (n : ℕ) → IsNumber (decimal n)
unfolding digits
decimal_number n = onto 63 n [] refl
