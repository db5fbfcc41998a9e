-- The ones of a word, from the lowest on.
use Rattle.std.proofs.Common.{◌≡◌, ℕ, ◌-◌, ◌*◌, ◌^◌, ◌%◌, ◌<◌, ◌≤◌, inl, inr, sym, ◌∙◌, arith, w64}
use Rattle.std.specs.Int.{bit_at, trailing_zeros}
use Rattle.std.specs.Int.RustNames.{bit_and}
use Rattle.std.proofs.lemmas.Bool.{cases_lt}
use Rattle.std.proofs.lemmas.Nat.{and_le_l}
use Rattle.std.proofs.lemmas.Nat.Bits.{bit_at-trailing_zeros, bit_at_above, bit_at_and, bit_at_clear_other, bit_at_clear_same}
use Rattle.chess_text.specs.Ones.{Drops}

pub lowest_one : (word k : ℕ) → 0 < word → word < 18446744073709551616 → k ≡ trailing_zeros w64 word → bit_at word k ≡ 1
lowest_one word k some less is = let lowest = bit_at-trailing_zeros w64 word some less in rw is lowest.1

-- the word whose ones but that of s stay
abbrev mask : ℕ → ℕ
mask s = 18446744073709551615 - 1 * 2 ^ s % 18446744073709551616

pub drops_one : (word s : ℕ) → word < 18446744073709551616 → s < 64 → Drops s word (bit_and word (mask s))
drops_one word s less square = record {
  gone = bit_at_clear_same w64 word s square;
  but = λ i none other. elim (cases_lt i 64) [
    | inl within ↦ sym (bit_at_clear_other w64 word s square i within other) ∙ none
    | inr above ↦ bit_at_above word 64 i less above
  ];
  kept = λ i none. let both = bit_at_and word (mask s) i in omega (arith, both, none);
}

pub fewer_ones : (word s : ℕ) → s < 64 → bit_at word s ≡ 1 → bit_and word (mask s) < word
fewer_ones word s square set =
    let cleared : bit_at (bit_and word (mask s)) s ≡ 0 = bit_at_clear_same w64 word s square in
    elim (cases_lt (bit_and word (mask s)) word) [
      | inl less ↦ less
      | inr more ↦
          let most : bit_and word (mask s) ≤ word = and_le_l word (mask s) in
          let same : bit_and word (mask s) ≡ word = omega (arith, most, more) in
          let still : bit_at word s ≡ 0 = rw (← same) cleared in
          absurd (omega (arith, set, still))
    ]
