-- A text with the open unit behind it.
use Rattle.std.proofs.Common.{◌≡◌, ℕ, ◌+◌, ◌-◌, ◌<◌, ◌≤◌, ◌==◌, not, suc, Bool, true, false, inl, inr, is_some, List, [], ◌∷◌, ◌++◌, Option, Some, None, length, take, drop, refl, sym, ap, subst, ◌∙◌, arith, add-one, length-append}
use Rattle.std.specs.Prelude.{if◌then◌else◌, slice_set}
use Rattle.std.specs.List.{prefix_len}
use Rattle.std.proofs.lemmas.Bool.{cases_Bool}
use Rattle.std.proofs.lemmas.Bool.Decides.{eqb_tells}
use Rattle.std.proofs.lemmas.List.{take-append-le, drop-append-le, set_split}
use Rattle.pgn_write.specs.Layout.{column_after, has_room}
use Rattle.pgn_write.specs.Writing.{Writing, IsLaid, begins_at, grown, lead_in, lead_size, seen}

-- More bytes belong to the unit.
pub laid_more : (text bytes new : List ℕ) (place : ℕ) (column : Option ℕ) → IsLaid text place column → new ≡ text ++ bytes → IsLaid new place column
laid_more text bytes new place column laid is = record { led = laid.led; within = rw is (omega (arith, length-append text bytes, laid.within)) }

pub laid_longer : (text new : List ℕ) (place : ℕ) (column : Option ℕ) → IsLaid text place column → length text ≤ length new → IsLaid new place column
laid_longer text new place column laid longer = record { led = laid.led; within = omega (arith, laid.within, longer) }

pub grown_is : (text bytes new : List ℕ) (place : ℕ) (column : Option ℕ) (holds holding : Bool) → IsLaid text place column → new ≡ text ++ bytes
    → seen new place column holding ≡ grown bytes holding (seen text place column holds)
grown_is text bytes new place column holds holding laid is =
    let before : place - lead_size column ≤ length text = omega (arith, laid.within) in
    let front : take (place - lead_size column) new ≡ take (place - lead_size column) text =
    ap (take (place - lead_size column)) is ∙ take-append-le (place - lead_size column) text bytes before in
    let back : drop place new ≡ drop place text ++ bytes = ap (drop place) is ∙ drop-append-le place text bytes laid.within in
    λ i. record { written = front i; unit = back i; column = column; holds = holding }

-- A unit without a line feed lengthens its line by its bytes.
adds : (begin : ℕ) (text : List ℕ) → prefix_len (λ byte. not (byte == 10)) text ≡ length text → begin + length text ≡ column_after begin text
adds begin [] whole = omega arith
adds begin (byte ∷ text) whole = elim (cases_Bool (byte == 10)) [
  | inl feed ↦ absurd (let less = rw feed at whole in omega (arith, less))
  | inr other ↦
      let rest = rw other at whole in
      let tail : prefix_len (λ (b : ℕ). not (b == 10)) text ≡ length text = omega (arith, rest) in
      let one : begin + length (byte ∷ text) ≡ (begin + 1) + length text = omega arith in
      rw other (one ∙ adds (begin + 1) text tail)
]

pub one_line : (begin width : ℕ) (text : List ℕ) → width ≡ prefix_len (λ byte. not (byte == 10)) text → width ≡ length text → begin + width ≡ column_after begin text
one_line begin width text is whole = ap (λ (n : ℕ). begin + n) whole ∙ adds begin text (sym is ∙ whole)

-- The byte before the unit is set.
lead_byte : (room : Bool) (column begin byte : ℕ) → begin ≡ (if room then column + 1 else 0) → byte ≡ (if begin == 0 then 10 else 32)
    → byte ≡ (if room then 32 else 10)
lead_byte true column begin byte at is = elim (eqb_tells (column + 1) 0) [
  | inl none ↦ absurd (let zero = none.1 in omega (arith, zero))
  | inr some ↦ rw (at, some.0) at is
]
lead_byte false column begin byte at is = rw at at is

pub led_in : (text : List ℕ) (place begin byte : ℕ) (column : Option ℕ) → IsLaid text place column → true ≡ is_some column
    → begin ≡ begins_at column (drop place text) → byte ≡ (if begin == 0 then 10 else 32)
    → slice_set text (place - 1) byte ≡ take (place - lead_size column) text ++ (lead_in column (drop place text) ++ drop place text)
led_in text place begin byte None laid some at is = absurd cc
led_in text place begin byte (Some column) laid some at is =
    let inside : place - 1 < length text = omega (arith, laid.led, laid.within) in
    let behind : suc (place - 1) ≡ place = omega (arith, laid.led) in
    let led = lead_byte (has_room column (drop place text)) column begin byte at is in
    set_split text (place - 1) byte inside
    ∙ ap (λ (n : ℕ). take (place - 1) text ++ byte ∷ drop n text) behind
    ∙ ap (λ (b : ℕ). take (place - 1) text ++ b ∷ drop place text) led
