-- The pawns at home as bits.
use Rattle.chess_laws.proofs.Words.{pow_pos, ◌≡◌, ℕ, zero, suc, ◌+◌, ◌-◌, ◌*◌, ◌/◌, ◌%◌, ◌^◌, ◌<◌, ◌≤◌, Bool, true, false, cond, ◌↔◌, IsTrue, IsBitSet, w16, refl, sym, ◌∙◌, ap, arith, inl, inr, bit_at, reverse_bits, bit_or, shr-shr, and_pow, bit_at-lt, bit_at-suc, bit_at_and, bit_at_lowest, bit_at_mask_below, bit_at_mask_inside, bit_at_ones, bit_at_ones_above, bit_at_or, bit_at_set_same, bit_at_set_other, cases_eq, cases_lt, false≢true, lt-ltb, le-ltb, White, Black, Pawn, Men, man_at, is_man, set_of, bit-set_of, is_home}
use Rattle.std.specs.Int.{reverse_bits_onto}
use lib.Bits.{bit_and}
use mir.Val.{bits}

-- bit v is set for each v below k that passes the test, and no bit from k on
pub record Bits (test : ℕ → Bool) (n k : ℕ) : Type 0 where
  pub done : (v : ℕ) → v < 16 → v < k → bit_at n v ≡ cond (test v) 1 0
  pub rest : (v : ℕ) → v < 16 → k ≤ v → bit_at n v ≡ 0

pub bits_yes : (test : ℕ → Bool) (n k : ℕ) → k < 16 → test k ≡ true → Bits test n k → Bits test (bit_or n (1 * 2 ^ k % 2 ^ bits w16)) (k + 1)
bits_yes test n k less passes b =
    record {
      done = λ v within below. elim (cases_eq v k) [
        | inl e ↦ rw (e, passes) (bit_at_set_same w16 n k less)
        | inr d ↦ bit_at_set_other w16 n k less v d ∙ b.done v within (omega arith)
      ];
      rest = λ v within above. bit_at_set_other w16 n k less v (omega arith) ∙ b.rest v within (omega arith);
    }

pub bits_no : (test : ℕ → Bool) (n k : ℕ) → k < 16 → test k ≡ false → Bits test n k → Bits test n (k + 1)
bits_no test n k less fails b =
    record {
      done = λ v within below. elim (cases_eq v k) [
        | inl e ↦ rw (e, fails) (b.rest k less (omega arith))
        | inr d ↦ b.done v within (omega arith)
      ];
      rest = λ v within above. b.rest v within (omega arith);
    }

pub bit-set : (n v : ℕ) (b : Bool) → bit_at n v ≡ cond b 1 0 → IsBitSet n v ↔ IsTrue b
bit-set n v true h = ((λ e. refl), (λ t zero. let e : bit_and n (2 ^ v) ≡ 1 * 2 ^ v = and_pow n v ∙ ap (λ x. x * 2 ^ v) h in let positive = pow_pos v in absurd (omega arith)))
bit-set n v false h = let z : bit_and n (2 ^ v) ≡ 0 * 2 ^ v = and_pow n v ∙ ap (λ x. x * 2 ^ v) h in let none : bit_and n (2 ^ v) ≡ 0 = omega arith in ((λ e. absurd (e none)), (λ t. absurd (false≢true t)))

-- ---- both rows of pawns, last bit first

onto-above : (k n a j : ℕ) → bit_at (reverse_bits_onto k n a) (k + j) ≡ bit_at a j
unfolding reverse_bits_onto
onto-above zero n a j = ap (bit_at a) (omega arith)
onto-above (suc k) n a j =
    let next : suc k + j ≡ k + suc j = omega arith in
    let half : (a * 2 + n % 2) / 2 ≡ a = omega arith in
    rw (next, onto-above k (n / 2) (a * 2 + n % 2) (suc j), bit_at-suc (a * 2 + n % 2) j, half) refl

onto-below : (k n a i : ℕ) → i < k → bit_at (reverse_bits_onto k n a) i ≡ bit_at n (k - 1 - i)
unfolding reverse_bits_onto
onto-below zero n a i less = absurd (omega (arith, less))
onto-below (suc k) n a i less = elim (cases_lt i k) [
  | inl before ↦
      let place : suc (k - 1 - i) ≡ suc k - 1 - i = omega (arith, before) in
      onto-below k (n / 2) (a * 2 + n % 2) i before ∙ sym (bit_at-suc n (k - 1 - i)) ∙ ap (bit_at n) place
  | inr last ↦
      let here : i ≡ k + 0 = omega (arith, less, last) in
      let first : suc k - 1 - i ≡ 0 = omega (arith, less, last) in
      let lowest : (a * 2 + n % 2) % 2 ≡ n % 2 = omega arith in
      rw (first, here, onto-above k (n / 2) (a * 2 + n % 2) 0, bit_at_lowest (a * 2 + n % 2), lowest, bit_at_lowest n) refl
]

-- The bits of both rows of squares.
abbrev pub rows : ℕ → ℕ → ℕ
rows black white = bit_or (bit_and (black / 2 ^ 40) 65280) (bit_and (white / 2 ^ 8) 255)

row-above : (black white j : ℕ) → 8 ≤ j → j < 16 → bit_at (rows black white) j ≡ bit_at black (40 + j)
row-above black white j from below =
    let b = black / 2 ^ 40 in
    let there : bit_at b j ≡ bit_at black (40 + j) = rw (shr-shr black 40 j) refl in
    let both = bit_at_or (bit_and b 65280) (bit_and (white / 2 ^ 8) 255) j in
    let upper = bit_at_and b 65280 j in
    let lower = bit_at_and (white / 2 ^ 8) 255 j in
    omega (arith, bit_at_mask_inside 8 16 j from below, bit_at_ones_above 8 j from, bit_at-lt b j)

row-below : (black white j : ℕ) → j < 8 → bit_at (rows black white) j ≡ bit_at white (8 + j)
row-below black white j below =
    let w = white / 2 ^ 8 in
    let there : bit_at w j ≡ bit_at white (8 + j) = rw (shr-shr white 8 j) refl in
    let both = bit_at_or (bit_and (black / 2 ^ 40) 65280) (bit_and w 255) j in
    let upper = bit_at_and (black / 2 ^ 40) 65280 j in
    let lower = bit_at_and w 255 j in
    omega (arith, bit_at_mask_below 8 16 j below, bit_at_ones 8 j below, bit_at-lt w j)

pub home-bit : (men : Men) (black white v : ℕ) → black ≡ set_of (is_man Black Pawn) men → white ≡ set_of (is_man White Pawn) men → v < 16
    → bit_at (reverse_bits w16 (rows black white)) v ≡ cond (is_home men v) 1 0
home-bit men black white v black_is white_is less =
    onto-below 16 (rows black white) 0 v less ∙ elim (cases_lt v 8) [
      | inl low ↦
          let place : 40 + (16 - 1 - v) ≡ 55 - v = omega (arith, low) in
          let home : is_home men v ≡ is_man Black Pawn (man_at men (55 - v)) = rw (lt-ltb v 8 low) refl in
          row-above black white (16 - 1 - v) (omega (arith, low)) (omega arith)
          ∙ (λ j. bit_at (black_is j) (place j)) ∙ bit-set_of (is_man Black Pawn) refl men (55 - v) ∙ ap (λ (t : Bool). cond t 1 0) (sym home)
      | inr high ↦
          let place : 8 + (16 - 1 - v) ≡ 23 - v = omega (arith, high, less) in
          let home : is_home men v ≡ is_man White Pawn (man_at men (23 - v)) = rw (le-ltb v 8 high) refl in
          row-below black white (16 - 1 - v) (omega (arith, high))
          ∙ (λ j. bit_at (white_is j) (place j)) ∙ bit-set_of (is_man White Pawn) refl men (23 - v) ∙ ap (λ (t : Bool). cond t 1 0) (sym home)
    ]
