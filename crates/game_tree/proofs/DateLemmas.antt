-- A date within its bounds reads back from its text, and what is read is within the bounds.
use Rattle.std.proofs.Common.{◌≡◌, ◌≢◌, ℕ, ◌+◌, ◌/◌, ◌%◌, ◌<◌, ◌≤◌, zero, suc, Bool, true, false, eqb, List, [], ◌∷◌, Option, Some, None, length, refl, sym, ap, subst, inl, inr, arith, lit≤}
use Rattle.std.specs.Prelude.{◌&&◌, codes, slice_index, slice_range}
use Rattle.std.specs.List.{list_all}
use Rattle.std.proofs.lemmas.Bool.{cases_Bool, and_parts, eqb-true, cases_lt}
use Rattle.std.proofs.lemmas.Option.{same_Some, none-some}
use Rattle.std.proofs.lemmas.List.Elements.{All-from_recursion}
use Rattle.std.proofs.Math.Nat.{div-div-eq-div-mul}
use native.Mathlib.Nat.{suc-ne-zero}
use Rattle.game_tree.specs.Head.{IsName}
use Rattle.game_tree.specs.Date.{IsDate, date_number, date_of, shown, date_text, part, of_parts, dated, date_read}
use Rattle.game_tree.specs.Decimal.{decimal_read}
use Rattle.game_tree.specs.declared.date.Date.{Date}
use Rattle.game_tree.proofs.DecimalLemmas.{decimal_read-bound}

-- A test holds of every number below a bound.
abbrev all_below : (ℕ → Bool) → ℕ → Bool
all_below test zero = true
all_below test (suc n) = test n && all_below test n

below_all : (test : ℕ → Bool) (n : ℕ) → all_below test n ≡ true → (k : ℕ) → k < n → test k ≡ true
below_all test zero all k under = absurd (omega arith)
below_all test (suc n) all k under =
    let parts = and_parts (test n) (all_below test n) all in
    let here : (k ≡ n) → test k ≡ true = λ e. subst (λ m. test m ≡ true) (sym e) parts.0 in
    elim (cases_lt k n) [ inl less ↦ below_all test n parts.1 k less | inr most ↦ here (omega arith) ]

abbrev is_number : Option ℕ → ℕ → Bool
is_number None n = false
is_number (Some m) n = eqb m n

number-is : (o : Option ℕ) (n : ℕ) → is_number o n ≡ true → o ≡ Some n
number-is None n e = cc
number-is (Some m) n e = ap Some (eqb-true m n e)

abbrev year_reads : ℕ → Bool
year_reads y = is_number (part 2047 (shown y (y / 1000) ∷ shown y (y / 100) ∷ shown y (y / 10) ∷ shown y y ∷ [])) y

abbrev pair_reads : ℕ → ℕ → Bool
pair_reads limit n = is_number (part limit (shown n (n / 10) ∷ shown n n ∷ [])) n

years_read : all_below year_reads 2048 ≡ true
unfolding part decimal_read
years_read = refl

months_read : all_below (pair_reads 12) 13 ≡ true
unfolding part decimal_read
months_read = refl

days_read : all_below (pair_reads 31) 32 ≡ true
unfolding part decimal_read
days_read = refl

abbrev year_digits : ℕ → List ℕ
year_digits y = shown y (y / 1000) ∷ shown y (y / 100) ∷ shown y (y / 10) ∷ shown y y ∷ []

abbrev pair_digits : ℕ → List ℕ
pair_digits n = shown n (n / 10) ∷ shown n n ∷ []

year_part : (y : ℕ) → y ≤ 2047 → part 2047 (year_digits y) ≡ Some y
year_part y most = number-is (part 2047 (year_digits y)) y (below_all year_reads 2048 years_read y (omega arith))

month_part : (m : ℕ) → m ≤ 12 → part 12 (pair_digits m) ≡ Some m
month_part m most = number-is (part 12 (pair_digits m)) m (below_all (pair_reads 12) 13 months_read m (omega arith))

day_part : (d : ℕ) → d ≤ 31 → part 31 (pair_digits d) ≡ Some d
day_part d most = number-is (part 31 (pair_digits d)) d (below_all (pair_reads 31) 32 days_read d (omega arith))

pub date_read-date_text : (d : Date) → IsDate d → date_read (date_text d) ≡ Some d
unfolding date_read date_text
date_read-date_text d is =
    rw (year_part d.year is.year, month_part d.month is.month, day_part d.day is.day) refl

part-bound : (limit : ℕ) (text : List ℕ) (n : ℕ) → part limit text ≡ Some n → n ≤ limit
unfolding part
part-bound limit text n e =
    elim (cases_Bool (list_all (λ c. eqb c 63) text)) [
      | inl unknown ↦ omega (arith, same_Some 0 n (rw unknown at e))
      | inr known ↦ decimal_read-bound limit text n (rw known at e)
    ]

dated-IsDate : (y m d : List ℕ) (date : Date) → dated y m d ≡ Some date → IsDate date
dated-IsDate y m d date e = from_parts (part 2047 y) (part 12 m) (part 31 d) (part-bound 2047 y) (part-bound 12 m) (part-bound 31 d) date e
  where
    from_parts : (y m d : Option ℕ) → ((n : ℕ) → y ≡ Some n → n ≤ 2047) → ((n : ℕ) → m ≡ Some n → n ≤ 12) → ((n : ℕ) → d ≡ Some n → n ≤ 31) → (date : Date) → of_parts y m d ≡ Some date → IsDate date
    from_parts (Some y) (Some m) (Some d) year month day date e =
        subst IsDate (same_Some _ _ e) (record { year = year y refl; month = month m refl; day = day d refl })
    from_parts (Some y) (Some m) None year month day date e = absurd (none-some date e)
    from_parts (Some y) None d year month day date e = absurd (none-some date e)
    from_parts None m d year month day date e = absurd (none-some date e)

pub date_read-IsDate : (text : List ℕ) (date : Date) → date_read text ≡ Some date → IsDate date
unfolding date_read
date_read-IsDate text date e =
    elim (cases_Bool (eqb (length text) 4)) [
      | inl four ↦ dated-IsDate text (codes "??") (codes "??") date (rw four at e)
      | inr not4 ↦ elim (cases_Bool (eqb (length text) 7 && eqb (slice_index text 4) 46)) [
        | inl seven ↦ dated-IsDate (slice_range text 0 4) (slice_range text 5 7) (codes "??") date (rw (not4, seven) at e)
        | inr not7 ↦ elim (cases_Bool (eqb (length text) 10 && eqb (slice_index text 4) 46 && eqb (slice_index text 7) 46)) [
          | inl ten ↦ dated-IsDate (slice_range text 0 4) (slice_range text 5 7) (slice_range text 8 10) date (rw (not4, not7, ten) at e)
          | inr not10 ↦ absurd (none-some date (rw (not4, not7, not10) at e))
        ]
      ]
    ]

-- A date's text is a value of a tag.
shown-some : (part number : ℕ) → shown part number ≢ 0
shown-some part number e =
    elim (cases_Bool (eqb part 0)) [ inl none ↦ absurd (suc-ne-zero 62 (rw none at e)) | inr some ↦ let sum : 48 + number % 10 ≡ 0 = rw some at e in omega arith ]

pub date_text-IsName : (d : Date) → IsName (date_text d)
unfolding date_text
date_text-IsName d =
    let dot : 46 ≢ 0 = λ e. suc-ne-zero 45 e in
    record {
      short = lit≤ tt;
      zero_free = All-from_recursion (λ byte. byte ≢ 0) (date_text d) (shown-some d.year (d.year / 1000), (shown-some d.year (d.year / 100), (shown-some d.year (d.year / 10), (shown-some d.year d.year, (dot, (shown-some d.month (d.month / 10), (shown-some d.month d.month, (dot, (shown-some d.day (d.day / 10), (shown-some d.day d.day, tt))))))))));
    }

pub ruleset reading_back = (date_read-date_text)

-- A date within its bounds is that of its number, and each number is that of its date.
pub date_of-date_number : (d : Date) → IsDate d → date_of (date_number d) ≡ d
date_of-date_number d is =
    let month = is.month in
    let day = is.day in
    let year_is : date_number d / 512 ≡ d.year = omega arith in
    let month_is : date_number d / 32 % 16 ≡ d.month = omega arith in
    let day_is : date_number d % 32 ≡ d.day = omega arith in
    rw (year_is, month_is, day_is) refl

pub date_number-date_of : (n : ℕ) → date_number (date_of n) ≡ n
date_number-date_of n =
    let d : n / 32 / 16 ≡ n / 512 = div-div-eq-div-mul n 32 16 in
    omega arith

pub ruleset numbering = (date_of-date_number, date_number-date_of)
