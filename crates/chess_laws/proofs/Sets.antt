-- Bits of a word, and what the sets of squares say: of a board, and of a table of leaps.
use Rattle.chess_laws.proofs.Words.{◌≡◌, ◌↔◌, ℕ, suc, ◌-◌, ◌&&◌, ◌==◌, ltb, ◌/◌, ◌^◌, ◌<◌, inl, inr, Bool, true, false, cond, not, eqb, IsTrue, List, Option, Some, None, refl, sym, ◌∙◌, ap, arith, pow-suc, min, w64, ◌+◌, ◌≤◌, ◌⊎◌, ◌*◌, ◌%◌, Any, bit_at, trailing_zeros, bit_and, bit_or, list_any, agree_below, agree_below_at, and_parts, cases_eq, cases_lt, eq-eqb, eqb-true, ltb-true, Decides-eqb, Decides-not, and_le_l, shr-shr, bit_at-lt, bit_at-trailing_zeros, bit_at-zero, bit_at_above, bit_at_cat_high, bit_at_and, bit_at_not, shr_and_one, bit_at_set_same, bit_at_set_other, bit_at_or, Colour, Kind, Man, Men, man_at, is_man, is_of, man, set_of, bit-set_of, LeapsFrom, Offset, Leaps, squares_of, leaps_now, HasNoOwn}
use Rattle.chess_laws.specs.RayTable.{before}
use Rattle.chess_laws.specs.Leaps.{names_leaps}
use Rattle.chess_laws.proofs.Kings.{is_man-Some, is_man-true}
use Rattle.chess_laws.proofs.Deciding.{any-Decides, is_of-Decides, leaps-Decides}
use Rattle.chess_laws.proofs.Walks.{shift-on_board}

-- a bit of a word shifted down is one of the word, and the other way round
pub bit-there : (n k i : ℕ) → bit_at (n / 2 ^ k) i ≡ 1 → bit_at n (k + i) ≡ 1
bit-there n k i set = let same : bit_at (n / 2 ^ k) i ≡ bit_at n (k + i) = rw (shr-shr n k i) in sym same ∙ set

bit-shifted : (n k i : ℕ) → k ≤ i → bit_at (n / 2 ^ k) (i - k) ≡ bit_at n i
bit-shifted n k i h =
    let whole : k + (i - k) ≡ i = omega arith in
    rw (shr-shr n k (i - k), whole)

-- a bit that is set stands within the word's 64 bits
pub bit-less : (n i : ℕ) → n < 2 ^ 64 → bit_at n i ≡ 1 → i < 64
bit-less n i less h = elim (cases_lt i 64) [
  | inl within ↦ within
  | inr above ↦ absurd (omega (arith, bit_at_above n 64 i less above))
]

pub bit-within : (n k i : ℕ) → n < 2 ^ 64 → bit_at (n / 2 ^ k) i ≡ 1 → k + i < 64
bit-within n k i less h = bit-less n (k + i) less (bit-there n k i h)

-- a word that shifts down to 0 has no bit from there on
pub bit-none : (n k i : ℕ) → n / 2 ^ k ≡ 0 → k ≤ i → bit_at n i ≡ 1 → ⊥
bit-none n k i none h set = omega (arith, rw none at (bit-shifted n k i h), bit_at-zero (i - k))

-- below the lowest bit of a shifted word there is none from there on
pub bit-first : (n k place s i : ℕ) → s ≡ k + place → ((i : ℕ) → i < place → bit_at (n / 2 ^ k) i ≡ 0) → k ≤ i → i < s → bit_at n i ≡ 1 → ⊥
bit-first n k place s i is first h less set = omega (arith, bit-shifted n k i h, first (i - k) (omega arith))

pub ruleset shifted = (bit-there, bit-none, bit-within, bit-first)

-- with one bit more a word has that one and those that it had
pub bit_kept : (a b i : ℕ) → bit_at a i ≡ 1 → bit_at (bit_or a b) i ≡ 1
bit_kept a b i h = omega (arith, bit_at_or a b i, bit_at-lt b i)

pub bit_set : (n k : ℕ) → k < 64 → bit_at (bit_or n (1 * 2 ^ k % 18446744073709551616)) k ≡ 1
bit_set n k less = bit_at_set_same w64 n k less

pub bit_only : (n k i : ℕ) → k < 64 → bit_at (bit_or n (1 * 2 ^ k % 18446744073709551616)) i ≡ 1 → (bit_at n i ≡ 1) ⊎ (i ≡ k)
bit_only n k i less set = elim (cases_eq i k) [ inl same ↦ inr same | inr apart ↦ inl (sym (bit_at_set_other w64 n k less i apart) ∙ set) ]

-- the lowest bit of a word is where its trailing zeros end
pub lowest_set : (n : ℕ) → (n ≡ 0 → ⊥) → n < 18446744073709551616 → bit_at n (trailing_zeros w64 n) ≡ 1
lowest_set n some less = (bit_at-trailing_zeros w64 n (omega arith) less).1

pub lowest_first : (n i : ℕ) → (n ≡ 0 → ⊥) → n < 18446744073709551616 → i < trailing_zeros w64 n → bit_at n i ≡ 0
lowest_first n i some less = (bit_at-trailing_zeros w64 n (omega arith) less).2 i

-- and the highest where its logarithm says
pub highest : (n k : ℕ) → 2 ^ k ≤ n → n < 2 * 2 ^ k → bit_at n k ≡ 1
highest n k low high =
    let is : n ≡ 1 * 2 ^ k + (n - 2 ^ k) = omega arith in
    let none : k - k ≡ 0 = omega arith in
    ap (λ m. bit_at m k) is ∙ bit_at_cat_high 1 k (n - 2 ^ k) k (omega arith) (omega arith) ∙ rw none refl

-- so of some squares the one to which steps come first
pub lowest_before : (n s i : ℕ) (up : Bool) → up ≡ true → (n ≡ 0 → ⊥) → n < 18446744073709551616 → s ≡ trailing_zeros w64 n → bit_at n i ≡ 1 → before up i s ≡ true → ⊥
lowest_before n s i up is some less at set first =
    omega (arith, set, lowest_first n i some less (omega (arith, at, ltb-true i s (rw is at first))))

pub highest_before : (n k s i : ℕ) (up : Bool) → up ≡ false → n < 2 * 2 ^ k → s ≡ k → bit_at n i ≡ 1 → before up i s ≡ true → ⊥
highest_before n k s i up is less at set first =
    let far : s < i = ltb-true s i (rw is at first) in
    omega (arith, set, bit_at_above n (suc k) i (omega (arith, less, pow-suc 2 k)) (omega (arith, far, at)))

-- a bit of a set tells of the test
pub bit-told : (test : Option Man → Bool) → test None ≡ false → (men : Men) (s : ℕ) → (bit_at (set_of test men) s ≡ 1) ↔ (test (man_at men s) ≡ true)
bit-told test none men s = rw (bit-set_of test none men s) (one-bit (test (man_at men s)))
  where
    one-bit : (x : Bool) → (◌≡◌ {A = ℕ} (cond x 1 0) 1) ↔ (x ≡ true)
    one-bit true = (λ h. refl, λ h. refl)
    one-bit false = (λ h. absurd (omega (arith, h)), λ h. absurd (cc))

pub man-has : (men : Men) (c : Colour) (k : Kind) (s : ℕ) → bit_at (set_of (is_man c k) men) s ≡ 1 → man_at men s ≡ Some (man c k)
man-has men c k s set = is_man-Some c k (man_at men s) ((bit-told (is_man c k) refl men s).0 set)

pub man-bit : (men : Men) (c : Colour) (k : Kind) (s : ℕ) → man_at men s ≡ Some (man c k) → bit_at (set_of (is_man c k) men) s ≡ 1
man-bit men c k s stands = (bit-told (is_man c k) refl men s).1 (rw stands (is_man-true c k))

-- a man stands on a square of his colour's set, and none of the colour on a square that is not in it
pub own_told : (men : Men) (c : Colour) (bits s : ℕ) → bits ≡ set_of (is_of c) men → (bit_at bits s ≡ 1) ↔ ((k : Kind) × (man_at men s ≡ Some (man c k)))
own_told men c bits s is =
    let bit = bit-told (is_of c) refl men s in
    let of = is_of-Decides c (man_at men s) in
    rw is (λ h. of.0 (bit.0 h), λ h. bit.1 (of.1 h))

pub no_own : (men : Men) (c : Colour) (bits s : ℕ) → bits ≡ set_of (is_of c) men → (bit_at bits s ≡ 0) ↔ HasNoOwn men c s
no_own men c bits s is =
    let told = own_told men c bits s is in (
      λ none k stands. omega (arith, none, told.1 (k, stands)),
      λ none. elim (cases_eq (bit_at bits s) 1) [
        | inl set ↦ let (k, stands) = told.0 set in absurd (none k stands)
        | inr other ↦ omega (arith, bit_at-lt bits s)
      ],
    )

-- what is left of a set
pub without_bits : (n bits : ℕ) → n < 18446744073709551616 → bits < 18446744073709551616 → (s : ℕ)
    → (bit_at (bit_and n (18446744073709551615 - bits)) s ≡ 1) ↔ ((bit_at n s ≡ 1) × (bit_at bits s ≡ 0))
without_bits n bits less fits s =
    let both = bit_at_and n (18446744073709551615 - bits) s in
    let one = bit_at-lt n s in
    let two = bit_at-lt bits s in
    let left : bit_at (bit_and n (18446744073709551615 - bits)) s ≡ min (bit_at n s) (1 - bit_at bits s) = elim (cases_lt s 64) [
      | inl within ↦ omega (arith, bit_at_not w64 bits s fits within)
      | inr above ↦ omega (arith, bit_at_above n 64 s less above)
    ] in
    (λ h. (omega arith, omega arith), λ h. omega (arith, h.0, h.1))

-- the squares that two sets have
pub both_bits : (n m s : ℕ) → (bit_at (bit_and n m) s ≡ 1) ↔ ((bit_at n s ≡ 1) × (bit_at m s ≡ 1))
both_bits n m s =
    let both = bit_at_and n m s in
    let one = bit_at-lt n s in
    let two = bit_at-lt m s in
    (λ h. (omega arith, omega arith), λ h. omega (arith, h.0, h.1))

-- and those that one of them has
pub either_bits : (n m s : ℕ) → (bit_at (bit_or n m) s ≡ 1) ↔ ((bit_at n s ≡ 1) ⊎ (bit_at m s ≡ 1))
either_bits n m s =
    let either = bit_at_or n m s in
    let one = bit_at-lt n s in
    let two = bit_at-lt m s in (
      λ h. elim (cases_eq (bit_at n s) 1) [ inl here ↦ inl here | inr other ↦ inr (omega (arith, either, one, two, h, other)) ],
      λ some. elim some [ inl h ↦ omega (arith, either, two, h) | inr h ↦ omega (arith, either, one, h) ],
    )

-- a word that is not 0 has a bit
some-bit : (n : ℕ) → n < 18446744073709551616 → (n ≡ 0 → ⊥) → (s : ℕ) × (bit_at n s ≡ 1)
some-bit n less some = let lowest = bit_at-trailing_zeros w64 n (omega arith) less in (_, lowest.1)

pub no-bit : (n s : ℕ) → n ≡ 0 → bit_at n s ≡ 1 → ⊥
no-bit n s none set = omega (arith, rw none at set, bit_at-zero s)

pub empty_told : (n : ℕ) (test : Bool) → n < 18446744073709551616 → test ≡ eqb n 0 → IsTrue test ↔ ((s : ℕ) → bit_at n s ≡ 1 → ⊥)
empty_told n test less told = rw told (
  λ h s. no-bit n s (eqb-true n 0 h),
  λ none. eq-eqb n 0 (elim (cases_eq n 0) [ inl is ↦ is | inr some ↦ let (s, set) = some-bit n less some in absurd (none s set) ]),
)

-- whether two words have a bit in common
pub meets_told : (n m : ℕ) (test : Bool) → n < 18446744073709551616 → test ≡ not (eqb (bit_and n m) 0)
    → IsTrue test ↔ ((s : ℕ) × ((bit_at n s ≡ 1) × (bit_at m s ≡ 1)))
meets_told n m test less told =
    let decides = Decides-not _ (Decides-eqb (bit_and n m) 0) in
    rw told (
      λ h. let (s, set) = some-bit (bit_and n m) (omega (arith, and_le_l n m)) (decides.0 h) in (s, (both_bits n m s).0 set),
      λ some. decides.1 (λ none. no-bit (bit_and n m) some.0 none ((both_bits n m some.0).1 some.1)),
    )

-- where men of one kind stand on one of the squares to which steps lead, one leaps
pub leapers : (men : Men) (c : Colour) (k : Kind) (bits s : ℕ) (steps : List Offset) (Squares : ℕ → Type 0) (test : Bool) → bits ≡ set_of (is_man c k) men → s < 64
    → (IsTrue test ↔ ((b : ℕ) × (Squares b × (bit_at bits b ≡ 1)))) → ((b : ℕ) → Squares b ↔ Any (Leaps s b) steps)
    → IsTrue test ↔ Any (LeapsFrom men (man c k) s) steps
leapers men c k bits s steps Squares test is less told each = (
  λ h.
      let some = told.0 h in
      let any = (each some.0).0 some.1.0 in
      let stands = man-has men c k some.0 (rw (← is) some.1.1) in
      (any.0, any.1, any.2, any.3, record { from = some.0; on_board = shift-on_board any.1 s some.0 any.4; stands = stands; target = less; leaps = any.4 }),
  λ any.
      let l = any.4 in
      told.1 (l.from, ((each l.from).1 (any.0, any.1, any.2, any.3, l.leaps), rw is (man-bit men c k l.from l.stands))),
)

-- a table says where steps lead
pub leap_set : (table : List ℕ) (steps : List Offset) (a b : ℕ) → names_leaps table steps ≡ true → a < 64
    → (bit_at (squares_of table a) b ≡ 1) ↔ Any (Leaps a b) steps
unfolding names_leaps
leap_set table steps a b all a_less =
    let row = agree_below_at (λ a. ltb (squares_of table a) 18446744073709551616 && agree_below (λ b. bit_at (squares_of table a) b == 1) (λ b. list_any (leaps_now a b) steps) 64) (λ a. true) 64 a all a_less in
    let parts = and_parts (ltb (squares_of table a) 18446744073709551616) _ row in
    let less : squares_of table a < 18446744073709551616 = ltb-true (squares_of table a) 18446744073709551616 parts.0 in
    let decides = any-Decides (leaps_now a b) (Leaps a b) (leaps-Decides a b) steps in
    let here : b < 64 → eqb (bit_at (squares_of table a) b) 1 ≡ list_any (leaps_now a b) steps =
    λ within. agree_below_at (λ b. bit_at (squares_of table a) b == 1) (λ b. list_any (leaps_now a b) steps) 64 b parts.1 within in (
      λ set. decides.0 (sym (here (bit-less (squares_of table a) b less set)) ∙ eq-eqb (bit_at (squares_of table a) b) 1 set),
      λ any. eqb-true (bit_at (squares_of table a) b) 1 (here (shift-on_board any.1 a b any.4) ∙ decides.1 any),
    )

-- one bit of a word, as the code reads it
pub has_told : (n s : ℕ) (test : Bool) → test ≡ eqb (bit_and (n / 2 ^ s) 1) 1 → IsTrue test ↔ (bit_at n s ≡ 1)
has_told n s test told = rw (told, shr_and_one n s) (Decides-eqb (bit_at n s) 1)
