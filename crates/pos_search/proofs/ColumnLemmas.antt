-- The squares of a set on two files, counted by one product.
use Rattle.std.proofs.Common.{◌≡◌, ℕ, zero, suc, ◌+◌, ◌*◌, ◌/◌, ◌%◌, ◌^◌, ◌<◌, ◌≤◌, ◌&&◌, eqb, Bool, true, false, refl, sym, ap, ◌∙◌, arith, inl, inr}
use Rattle.std.specs.Int.{bit_at}
use Rattle.std.specs.Int.RustNames.{bit_and}
use Rattle.std.specs.List.{list_all, range_with_len}
use Rattle.std.proofs.lemmas.Bool.{agree_below, agree_below_at, and_parts, cases_Bool, eq-eqb, eqb-true, false≢true}
use Rattle.std.proofs.lemmas.Nat.{and_le_r, shr-shr}
use Rattle.std.proofs.lemmas.Nat.Bits.{bit_at-lt, bit_at_and}
use Rattle.chess_laws.specs.Geometry.{square}
use Rattle.pos_search.specs.Columns.{on_file, same_number, same_numbers, same_pair, same_pairs}

-- ---- the bytes of two files

-- Every fourth bit is set, and this bit of each rank is set or not.
mask-at : (j v : ℕ) → agree_below (λ (r : ℕ). eqb (bit_at 1229782938247303441 (8 * r + j)) v) (λ (r : ℕ). true) 8 ≡ true
    → (rank : ℕ) → rank < 8 → bit_at 1229782938247303441 (8 * rank + j) ≡ v
mask-at j v checked rank less =
    eqb-true (bit_at 1229782938247303441 (8 * rank + j)) v
    (agree_below_at (λ (r : ℕ). eqb (bit_at 1229782938247303441 (8 * r + j)) v) (λ (r : ℕ). true) 8 rank checked less)

-- A number's lowest byte by its bits.
byte-bits : (n : ℕ) → n % 256 ≡ bit_at n 0 + 2 * bit_at n 1 + 4 * bit_at n 2 + 8 * bit_at n 3 + 16 * bit_at n 4 + 32 * bit_at n 5 + 64 * bit_at n 6 + 128 * bit_at n 7
byte-bits n = omega arith

-- The bits of the two files: those on a rank, and the others are gone.
bit-kept : (set file rank j : ℕ) → bit_at 1229782938247303441 (8 * rank + j) ≡ 1
    → bit_at (bit_and (set / 2 ^ file) 1229782938247303441 / 2 ^ (8 * rank)) j ≡ bit_at set (file + (8 * rank + j))
bit-kept set file rank j on =
    let both = bit_at_and (set / 2 ^ file) 1229782938247303441 (8 * rank + j) in
    let small = bit_at-lt (set / 2 ^ file) (8 * rank + j) in
    let kept : bit_at (bit_and (set / 2 ^ file) 1229782938247303441) (8 * rank + j) ≡ bit_at (set / 2 ^ file) (8 * rank + j) = omega (arith, both, on, small) in
    let word = ap (λ (n : ℕ). n % 2) (shr-shr (bit_and (set / 2 ^ file) 1229782938247303441) (8 * rank) j) in
    let bit = ap (λ (n : ℕ). n % 2) (shr-shr set file (8 * rank + j)) in
    word ∙ kept ∙ bit

bit-gone : (set file rank j : ℕ) → bit_at 1229782938247303441 (8 * rank + j) ≡ 0
    → bit_at (bit_and (set / 2 ^ file) 1229782938247303441 / 2 ^ (8 * rank)) j ≡ 0
bit-gone set file rank j off =
    let both = bit_at_and (set / 2 ^ file) 1229782938247303441 (8 * rank + j) in
    let gone : bit_at (bit_and (set / 2 ^ file) 1229782938247303441) (8 * rank + j) ≡ 0 = omega (arith, both, off) in
    ap (λ (n : ℕ). n % 2) (shr-shr (bit_and (set / 2 ^ file) 1229782938247303441) (8 * rank) j) ∙ gone

-- The byte of a rank.
rank-byte : (set file rank : ℕ) → rank < 8
    → bit_and (set / 2 ^ file) 1229782938247303441 / 2 ^ (8 * rank) % 256 ≡ bit_at set (square file rank) + 16 * bit_at set (square (file + 4) rank)
rank-byte set file rank less =
    let here : file + (8 * rank + 0) ≡ square file rank = omega arith in
    let there : file + (8 * rank + 4) ≡ square (file + 4) rank = omega arith in
    let own = bit-kept set file rank 0 (mask-at 0 1 refl rank less) ∙ ap (bit_at set) here in
    let other = bit-kept set file rank 4 (mask-at 4 1 refl rank less) ∙ ap (bit_at set) there in
    omega (
      arith,
      byte-bits (bit_and (set / 2 ^ file) 1229782938247303441 / 2 ^ (8 * rank)),
      own,
      bit-gone set file rank 1 (mask-at 1 0 refl rank less),
      bit-gone set file rank 2 (mask-at 2 0 refl rank less),
      bit-gone set file rank 3 (mask-at 3 0 refl rank less),
      other,
      bit-gone set file rank 5 (mask-at 5 0 refl rank less),
      bit-gone set file rank 6 (mask-at 6 0 refl rank less),
      bit-gone set file rank 7 (mask-at 7 0 refl rank less),
    )

-- ---- their sum

-- A word by its bytes.
by-bytes : (x : ℕ) → x < 2 ^ 64
    → x ≡ x % 256 + 256 * (x / 2 ^ 8 % 256) + 65536 * (x / 2 ^ 16 % 256) + 16777216 * (x / 2 ^ 24 % 256) + 4294967296 * (x / 2 ^ 32 % 256)
    + 1099511627776 * (x / 2 ^ 40 % 256) + 281474976710656 * (x / 2 ^ 48 % 256) + 72057594037927936 * (x / 2 ^ 56 % 256)
by-bytes x less =
    omega (arith, less, shr-shr x 8 8, shr-shr x 16 8, shr-shr x 24 8, shr-shr x 32 8, shr-shr x 40 8, shr-shr x 48 8, shr-shr x 56 8)

-- The highest byte of the product of small bytes with ones.
highest : (x a b c d e f g h : ℕ)
    → x ≡ a + 256 * b + 65536 * c + 16777216 * d + 4294967296 * e + 1099511627776 * f + 281474976710656 * g + 72057594037927936 * h
    → a ≤ 17 → b ≤ 17 → c ≤ 17 → d ≤ 17 → e ≤ 17 → f ≤ 17 → g ≤ 17 → h ≤ 17
    → x * 72340172838076673 % 2 ^ 64 / 2 ^ 56 ≡ a + b + c + d + e + f + g + h
highest x a b c d e f g h is a_few b_few c_few d_few e_few f_few g_few h_few =
    omega (arith, is, a_few, b_few, c_few, d_few, e_few, f_few, g_few, h_few)

-- The squares of a file, rank by rank.
ranks : (set file : ℕ) → on_file set file 8 ≡ bit_at set (square file 0) + bit_at set (square file 1) + bit_at set (square file 2) + bit_at set (square file 3) + bit_at set (square file 4) + bit_at set (square file 5) + bit_at set (square file 6) + bit_at set (square file 7)
ranks set file = omega arith

-- A rank's byte is small.
small-byte : (set file rank : ℕ) → bit_at set (square file rank) + 16 * bit_at set (square (file + 4) rank) ≤ 17
small-byte set file rank = omega (arith, bit_at-lt set (square file rank), bit_at-lt set (square (file + 4) rank))

-- What the product tells of two files.
pub pair-told : (set file : ℕ) → bit_and (set / 2 ^ file) 1229782938247303441 * 72340172838076673 % 2 ^ 64 / 2 ^ 56 ≡ on_file set file 8 + 16 * on_file set (file + 4) 8
pair-told set file =
    let x = bit_and (set / 2 ^ file) 1229782938247303441 in
    let less : x < 2 ^ 64 = omega (arith, and_le_r (set / 2 ^ file) 1229782938247303441) in
    let byte : (rank : ℕ) → rank < 8 → x / 2 ^ (8 * rank) % 256 ≡ bit_at set (square file rank) + 16 * bit_at set (square (file + 4) rank) = rank-byte set file in
    let few : (rank : ℕ) → bit_at set (square file rank) + 16 * bit_at set (square (file + 4) rank) ≤ 17 = small-byte set file in
    let is : x ≡ (bit_at set (square file 0) + 16 * bit_at set (square (file + 4) 0)) + 256 * (bit_at set (square file 1) + 16 * bit_at set (square (file + 4) 1)) + 65536 * (bit_at set (square file 2) + 16 * bit_at set (square (file + 4) 2)) + 16777216 * (bit_at set (square file 3) + 16 * bit_at set (square (file + 4) 3)) + 4294967296 * (bit_at set (square file 4) + 16 * bit_at set (square (file + 4) 4)) + 1099511627776 * (bit_at set (square file 5) + 16 * bit_at set (square (file + 4) 5)) + 281474976710656 * (bit_at set (square file 6) + 16 * bit_at set (square (file + 4) 6)) + 72057594037927936 * (bit_at set (square file 7) + 16 * bit_at set (square (file + 4) 7)) =
    omega (arith, by-bytes x less, byte 0 (omega arith), byte 1 (omega arith), byte 2 (omega arith), byte 3 (omega arith), byte 4 (omega arith), byte 5 (omega arith), byte 6 (omega arith), byte 7 (omega arith)) in
    highest x (bit_at set (square file 0) + 16 * bit_at set (square (file + 4) 0)) (bit_at set (square file 1) + 16 * bit_at set (square (file + 4) 1)) (bit_at set (square file 2) + 16 * bit_at set (square (file + 4) 2)) (bit_at set (square file 3) + 16 * bit_at set (square (file + 4) 3)) (bit_at set (square file 4) + 16 * bit_at set (square (file + 4) 4)) (bit_at set (square file 5) + 16 * bit_at set (square (file + 4) 5)) (bit_at set (square file 6) + 16 * bit_at set (square (file + 4) 6)) (bit_at set (square file 7) + 16 * bit_at set (square (file + 4) 7)) is
    (few 0) (few 1) (few 2) (few 3) (few 4) (few 5) (few 6) (few 7)
    ∙ omega (arith, ranks set file, ranks set (file + 4))

-- ---- two sets

-- No file has more squares than ranks.
on_file-few : (set file n : ℕ) → on_file set file n ≤ n
on_file-few set file zero = omega arith
on_file-few set file (suc n) = omega (arith, on_file-few set file n, bit_at-lt set (square file n))

-- Two sets with the same sum have as many on both files.
pub pair-same : (a b file : ℕ) → eqb (on_file a file 8 + 16 * on_file a (file + 4) 8) (on_file b file 8 + 16 * on_file b (file + 4) 8) ≡ same_pair a b file
unfolding same_pair
pair-same a b file = by (on_file a file 8) (on_file a (file + 4) 8) (on_file b file 8) (on_file b (file + 4) 8) (on_file-few a file 8) (on_file-few b file 8)
  where
    by : (p q r s : ℕ) → p ≤ 8 → r ≤ 8 → eqb (p + 16 * q) (r + 16 * s) ≡ (eqb p r && eqb q s)
    by p q r s p_few r_few = elim (cases_Bool (eqb (p + 16 * q) (r + 16 * s))) [
      | inl same ↦
          let sums = eqb-true (p + 16 * q) (r + 16 * s) same in
          let own : p ≡ r = omega (arith, sums, p_few, r_few) in
          let other : q ≡ s = omega (arith, sums, own) in
          same ∙ (λ i. true && true) ∙ (λ i. sym (eq-eqb p r own) i && sym (eq-eqb q s other) i)
      | inr differs ↦
          elim (cases_Bool (eqb p r && eqb q s)) [
            | inl both ↦
                let parts = and_parts (eqb p r) (eqb q s) both in
                let own = eqb-true p r parts.0 in
                let other = eqb-true q s parts.1 in
                let sums : p + 16 * q ≡ r + 16 * s = omega (arith, own, other) in
                absurd (false≢true (sym differs ∙ eq-eqb (p + 16 * q) (r + 16 * s) sums))
            | inr apart ↦ differs ∙ sym apart
          ]
    ]

-- The tests of four pairs are those of eight files.
eight-tests : (t : ℕ → Bool) → ((t 0 && t 4) && (t 1 && t 5) && (t 2 && t 6) && (t 3 && t 7)) ≡ list_all t (range_with_len 0 8)
eight-tests t = by (t 0) (t 1) (t 2) (t 3) (t 4) (t 5) (t 6) (t 7)
  where
    by : (a b c d e f g h : Bool) → ((a && e) && (b && f) && (c && g) && (d && h)) ≡ (a && (b && (c && (d && (e && (f && (g && (h && true))))))))
    by false b c d e f g h = refl
    by true false c d false f g h = refl
    by true false c d true f g h = refl
    by true true false d false f g h = refl
    by true true false d true false g h = refl
    by true true false d true true g h = refl
    by true true true false false f g h = refl
    by true true true false true false g h = refl
    by true true true false true true false h = refl
    by true true true false true true true h = refl
    by true true true true false f g h = refl
    by true true true true true false g h = refl
    by true true true true true true false h = refl
    by true true true true true true true false = refl
    by true true true true true true true true = refl

-- The test of each of the four places, as a program makes it.
pub four_tests : (t : ℕ → Bool) → (t 0 && t 1 && t 2 && t 3) ≡ list_all t (range_with_len 0 4)
four_tests t = by (t 0) (t 1) (t 2) (t 3)
  where
    by : (a b c d : Bool) → (a && b && c && d) ≡ (a && (b && (c && (d && true))))
    by false b c d = refl
    by true false c d = refl
    by true true false d = refl
    by true true true false = refl
    by true true true true = refl

-- Two sets have as many on each file if they have as many on each pair of files.
pub pairs-told : (a b : ℕ) → same_pairs a b ≡ same_numbers a b
unfolding same_pair same_pairs same_numbers
pairs-told a b = sym (four_tests (λ file. same_number a b file && same_number a b (file + 4))) ∙ eight-tests (same_number a b)
