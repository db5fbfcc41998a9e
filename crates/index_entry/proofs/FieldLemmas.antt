-- Each field by the bytes around it.
use Rattle.std.proofs.Common.{◌≡◌, ◌+◌, ◌*◌, ◌-◌, ◌/◌, ◌%◌, ◌^◌, ◌<◌, ℕ, List, get_or, refl, ◌∙◌, arith, inl, inr, eq-eqb}
use Rattle.std.proofs.lemmas.Bool.{cases_eq, ne_eqb}
use Rattle.index_entry.specs.Reading.{half}
use Rattle.byteorder.specs.Endian.{big_from}
use Rattle.index_entry.specs.Bits.{field, bits}
use Rattle.index_entry.specs.Places.{spare, outcome, eco, event_code, event_month, event_day, white_kind, white_value, black_kind, black_value, stored_line, home_count, home_value}
use Rattle.index_entry.proofs.FieldPlaces.{offset, len, marks, deleted, under, promo, own_start, white, black, event, site, round, nags, comments, vars, date, plies}
use Rattle.index_entry.proofs.BitLemmas.{IsBytes, field-run, field-append}

pub offset-is : (b : List ℕ) → IsBytes b → field b offset ≡ big_from 0 4 b / 1 % 4294967296
offset-is b h = field-run b 0 4 0 32 0 h (omega arith) refl

pub spare-is : (b : List ℕ) → IsBytes b → field b spare ≡ big_from 6 1 b / 64 % 2
unfolding spare
spare-is b h = field-run b 6 1 49 1 6 h (omega arith) refl

pub deleted-is : (b : List ℕ) → IsBytes b → field b deleted ≡ big_from 7 2 b / 8 % 2
deleted-is b h = field-run b 7 2 68 1 3 h (omega arith) refl

pub under-is : (b : List ℕ) → IsBytes b → field b under ≡ big_from 7 2 b / 4 % 2
under-is b h = field-run b 7 2 69 1 2 h (omega arith) refl

pub promo-is : (b : List ℕ) → IsBytes b → field b promo ≡ big_from 7 2 b / 2 % 2
promo-is b h = field-run b 7 2 70 1 1 h (omega arith) refl

pub own_start-is : (b : List ℕ) → IsBytes b → field b own_start ≡ big_from 7 2 b / 1 % 2
own_start-is b h = field-run b 7 2 71 1 0 h (omega arith) refl

pub outcome-is : (b : List ℕ) → IsBytes b → field b outcome ≡ big_from 21 1 b / 16 % 16
unfolding outcome
outcome-is b h = field-run b 21 1 168 4 4 h (omega arith) refl

pub nags-is : (b : List ℕ) → IsBytes b → field b nags ≡ big_from 21 1 b / 1 % 16
nags-is b h = field-run b 21 1 172 4 0 h (omega arith) refl

pub comments-is : (b : List ℕ) → IsBytes b → field b comments ≡ big_from 21 2 b / 16 % 16
comments-is b h = field-run b 21 2 176 4 4 h (omega arith) refl

pub vars-is : (b : List ℕ) → IsBytes b → field b vars ≡ big_from 21 2 b / 1 % 16
vars-is b h = field-run b 21 2 180 4 0 h (omega arith) refl

pub eco-is : (b : List ℕ) → IsBytes b → field b eco ≡ big_from 23 2 b / 1 % 65536
unfolding eco
eco-is b h = field-run b 23 2 184 16 0 h (omega arith) refl

pub event_code-is : (b : List ℕ) → IsBytes b → field b event_code ≡ big_from 25 4 b / 536870912 % 8
unfolding event_code
event_code-is b h = field-run b 25 4 200 3 29 h (omega arith) refl

pub event_month-is : (b : List ℕ) → IsBytes b → field b event_month ≡ big_from 25 4 b / 33554432 % 16
unfolding event_month
event_month-is b h = field-run b 25 4 203 4 25 h (omega arith) refl

pub event_day-is : (b : List ℕ) → IsBytes b → field b event_day ≡ big_from 25 4 b / 1048576 % 32
unfolding event_day
event_day-is b h = field-run b 25 4 207 5 20 h (omega arith) refl

pub date-is : (b : List ℕ) → IsBytes b → field b date ≡ big_from 25 4 b / 1 % 1048576
date-is b h = field-run b 25 4 212 20 0 h (omega arith) refl

pub white_kind-is : (b : List ℕ) → IsBytes b → field b white_kind ≡ big_from 29 2 b / 4096 % 16
unfolding white_kind
white_kind-is b h = field-run b 29 2 232 4 12 h (omega arith) refl

pub white_value-is : (b : List ℕ) → IsBytes b → field b white_value ≡ big_from 29 2 b / 1 % 4096
unfolding white_value
white_value-is b h = field-run b 29 2 236 12 0 h (omega arith) refl

pub black_kind-is : (b : List ℕ) → IsBytes b → field b black_kind ≡ big_from 31 2 b / 4096 % 16
unfolding black_kind
black_kind-is b h = field-run b 31 2 248 4 12 h (omega arith) refl

pub black_value-is : (b : List ℕ) → IsBytes b → field b black_value ≡ big_from 31 2 b / 1 % 4096
unfolding black_value
black_value-is b h = field-run b 31 2 252 12 0 h (omega arith) refl

pub stored_line-is : (b : List ℕ) → IsBytes b → field b stored_line ≡ big_from 33 1 b / 1 % 256
unfolding stored_line
stored_line-is b h = field-run b 33 1 264 8 0 h (omega arith) refl

pub home_count-is : (b : List ℕ) → IsBytes b → field b home_count ≡ big_from 38 1 b / 1 % 64
unfolding home_count
home_count-is b h = field-run b 38 1 306 6 0 h (omega arith) refl

pub len-is : (b : List ℕ) → IsBytes b → field b len ≡ (big_from 6 1 b / 128 % 2) * 65536 + big_from 4 2 b / 1 % 65536
len-is b h =
    let high = field-run b 6 1 48 1 7 h (omega arith) refl in
    let low = field-run b 4 2 32 16 0 h (omega arith) refl in
    field-append b (bits 6 0 1) (bits 4 0 16) ∙ (λ i. high i * 65536 + low i)

pub marks-is : (b : List ℕ) → IsBytes b → field b marks ≡ (big_from 6 1 b / 1 % 64) * 4096 + big_from 7 2 b / 16 % 4096
marks-is b h =
    let high = field-run b 6 1 50 6 0 h (omega arith) refl in
    let low = field-run b 7 2 56 12 4 h (omega arith) refl in
    field-append b (bits 6 2 6) (bits 7 0 12) ∙ (λ i. high i * 4096 + low i)

pub white-is : (b : List ℕ) → IsBytes b → field b white ≡ (big_from 9 1 b / 16 % 16) * 65536 + big_from 10 2 b / 1 % 65536
white-is b h =
    let high = field-run b 9 1 72 4 4 h (omega arith) refl in
    let low = field-run b 10 2 80 16 0 h (omega arith) refl in
    field-append b (bits 9 0 4) (bits 10 0 16) ∙ (λ i. high i * 65536 + low i)

pub black-is : (b : List ℕ) → IsBytes b → field b black ≡ (big_from 9 1 b / 1 % 16) * 65536 + big_from 12 2 b / 1 % 65536
black-is b h =
    let high = field-run b 9 1 76 4 0 h (omega arith) refl in
    let low = field-run b 12 2 96 16 0 h (omega arith) refl in
    field-append b (bits 9 4 4) (bits 12 0 16) ∙ (λ i. high i * 65536 + low i)

pub event-is : (b : List ℕ) → IsBytes b → field b event ≡ (big_from 14 1 b / 32 % 8) * 65536 + big_from 15 2 b / 1 % 65536
event-is b h =
    let high = field-run b 14 1 112 3 5 h (omega arith) refl in
    let low = field-run b 15 2 120 16 0 h (omega arith) refl in
    field-append b (bits 14 0 3) (bits 15 0 16) ∙ (λ i. high i * 65536 + low i)

pub site-is : (b : List ℕ) → IsBytes b → field b site ≡ (big_from 14 1 b / 4 % 8) * 65536 + big_from 17 2 b / 1 % 65536
site-is b h =
    let high = field-run b 14 1 115 3 2 h (omega arith) refl in
    let low = field-run b 17 2 136 16 0 h (omega arith) refl in
    field-append b (bits 14 3 3) (bits 17 0 16) ∙ (λ i. high i * 65536 + low i)

pub round-is : (b : List ℕ) → IsBytes b → field b round ≡ (big_from 14 1 b / 1 % 4) * 65536 + big_from 19 2 b / 1 % 65536
round-is b h =
    let high = field-run b 14 1 118 2 0 h (omega arith) refl in
    let low = field-run b 19 2 152 16 0 h (omega arith) refl in
    field-append b (bits 14 6 2) (bits 19 0 16) ∙ (λ i. high i * 65536 + low i)

pub plies-is : (b : List ℕ) → IsBytes b → field b plies ≡ (big_from 38 1 b / 64 % 4) * 256 + big_from 37 1 b / 1 % 256
plies-is b h =
    let high = field-run b 38 1 304 2 6 h (omega arith) refl in
    let low = field-run b 37 1 296 8 0 h (omega arith) refl in
    field-append b (bits 38 0 2) (bits 37 0 8) ∙ (λ i. high i * 256 + low i)

pub home_value-is : (b : List ℕ) (i : ℕ) → IsBytes b → field b (home_value i) ≡ half (get_or b (39 + i / 2) 0) i
unfolding home_value
home_value-is b i h = elim (cases_eq (i % 2) 0) [
  | inl e ↦
      let high = field-run b (39 + i / 2) 1 (8 * 39 + 4 * i) 4 4 h (omega arith) (omega arith) in
      rw (eq-eqb (i % 2) 0 e) (omega (arith, high, h (39 + i / 2)))
  | inr ne ↦
      let low = field-run b (39 + i / 2) 1 (8 * 39 + 4 * i) 4 0 h (omega arith) (omega arith) in
      rw (ne_eqb (i % 2) 0 ne) (omega (arith, low, h (39 + i / 2)))
]

pub home_value-in_word : (b : List ℕ) (i : ℕ) → IsBytes b → i < 16 → field b (home_value i) ≡ big_from 39 8 b / 2 ^ (60 - 4 * i) % 16
unfolding home_value
home_value-in_word b i h less = field-run b 39 8 (8 * 39 + 4 * i) 4 (60 - 4 * i) h (omega arith) (omega (arith, less))
