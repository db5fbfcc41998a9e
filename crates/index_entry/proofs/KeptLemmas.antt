-- Two entries that say the same have the same bits, but for the places that say nothing.
use Rattle.std.proofs.Common.{◌≡◌, ◌≤◌, ◌<◌, ◌+◌, ◌-◌, ◌*◌, ◌^◌, ◌/◌, ◌%◌, ℕ, zero, suc, Bool, true, false, cond, eqb, ltb, ◌&&◌, ◌||◌, List, [], ◌∷◌, ◌++◌, length, map, get_or, Ok, refl, sym, ap, subst, ◌∙◌, arith, ◌⊎◌, inl, inr, eq-eqb}
use Rattle.std.specs.List.{range_with_len, AllByRecursion}
use Rattle.std.proofs.lemmas.Bool.{lt-ltb, eqb-true, cases_eq, cases_lt, cases_Bool, or_parts, cond-true, cond-false, or_left, both_ways, agree_below, agree_below_at}
use Rattle.std.proofs.lemmas.Nat.Bits.{bit_at-lt}
use Rattle.index_entry.specs.declared.entry.Entry.{Entry}
use Rattle.index_entry.specs.Bits.{bit_in, field, bits}
use Rattle.index_entry.proofs.BitLemmas.{field-append}
use Rattle.game_tree.specs.declared.head.Rating.{Rating}
use Rattle.index_entry.specs.Places as places
use Rattle.index_entry.proofs.FieldPlaces as spots
use Rattle.index_entry.specs.Entry.{outcome_of, date_in, event_date_in, has_event_date, event_date_of, rating_of, home_in, entry_in, entry_read, home_from, event_places, free_places, is_among, AreCleared, IsWritten}
use Rattle.index_entry.proofs.SoundLemmas.{field-lt, Passed, passed, has_is}
use Rattle.game_tree.specs.Date.{unknown_date, date_number, date_of}
use Rattle.game_tree.proofs.DateLemmas.{date_number-date_of}
use Rattle.game_tree.specs.declared.date.Date.{Date}
use Rattle.index_entry.specs.Writing.{code_of}
use Rattle.std.proofs.lemmas.List.FromFn.{get_or-map-range_with_len}

-- ---- the bits of a field

bit_small : (b : List ℕ) (p : ℕ) → bit_in b p < 2
bit_small b p = bit_at-lt (get_or b (p / 8) 0) (7 - p % 8)

first_bit : (x y half r s : ℕ) → x < 2 → y < 2 → r < half → s < half → x * half + r ≡ y * half + s → (x ≡ y) × (r ≡ s)
first_bit zero zero half r s lx ly lr ls e = (refl, omega arith)
first_bit zero (suc zero) half r s lx ly lr ls e = absurd (omega arith)
first_bit (suc zero) zero half r s lx ly lr ls e = absurd (omega arith)
first_bit (suc zero) (suc zero) half r s lx ly lr ls e = (refl, omega arith)
first_bit (suc (suc x)) y half r s lx ly lr ls e = absurd (omega arith)
first_bit zero (suc (suc y)) half r s lx ly lr ls e = absurd (omega arith)
first_bit (suc zero) (suc (suc y)) half r s lx ly lr ls e = absurd (omega arith)

same_bits : (b c ps : List ℕ) → field b ps ≡ field c ps → AllByRecursion (λ p. bit_in c p ≡ bit_in b p) ps
unfolding field
same_bits b c [] e = tt
same_bits b c (p ∷ ps) e =
    let parts = first_bit (bit_in c p) (bit_in b p) (2 ^ length ps) (field c ps) (field b ps) (bit_small c p) (bit_small b p) (field-lt c ps) (field-lt b ps) (sym e) in
    (parts.0, same_bits b c ps (sym parts.1))

clear_bits : (c ps : List ℕ) → field c ps ≡ 0 → AllByRecursion (λ p. bit_in c p ≡ 0) ps
unfolding field
clear_bits c [] e = tt
clear_bits c (p ∷ ps) e =
    let parts = first_bit (bit_in c p) 0 (2 ^ length ps) (field c ps) 0 (bit_small c p) (omega arith) (field-lt c ps) (omega (arith, field-lt c ps)) (e ∙ omega arith) in
    (parts.0, clear_bits c ps parts.1)

-- ---- lists of places

or_assoc : (a b c : Bool) → (a || (b || c)) ≡ ((a || b) || c)
or_assoc true b c = refl
or_assoc false b c = refl

or_true : (a b : Bool) → b ≡ true → (a || b) ≡ true
or_true true b e = refl
or_true false b e = e

among-append : (p : ℕ) (xs ys : List ℕ) → is_among p (xs ++ ys) ≡ (is_among p xs || is_among p ys)
among-append p [] ys = refl
among-append p (x ∷ xs) ys = ap (λ t. eqb p x || t) (among-append p xs ys) ∙ or_assoc (eqb p x) (is_among p xs) (is_among p ys)

all-append : (P : ℕ → Type 0) (xs ys : List ℕ) → AllByRecursion P xs → AllByRecursion P ys → AllByRecursion P (xs ++ ys)
all-append P [] ys hx hy = hy
all-append P (x ∷ xs) ys hx hy = (hx.0, all-append P xs ys hx.1 hy)

all_at_step : (P : ℕ → Type 0) (x : ℕ) (xs : List ℕ) (p : ℕ) (t : Bool) → t ≡ eqb p x → P x → (is_among p xs ≡ true → P p) → (t || is_among p xs) ≡ true → P p
all_at_step P x xs p true e here later is = subst P (sym (eqb-true p x (sym e))) here
all_at_step P x xs p false e here later is = later is

all_at : (P : ℕ → Type 0) (xs : List ℕ) (p : ℕ) → AllByRecursion P xs → is_among p xs ≡ true → P p
all_at P [] p all is = absurd cc
all_at P (x ∷ xs) p all is = all_at_step P x xs p (eqb p x) refl all.0 (all_at P xs p all.1) is

-- what holds of each place of a list, as a list
all_from : (P : ℕ → Type 0) (ps : List ℕ) → ((p : ℕ) → is_among p ps ≡ true → P p) → AllByRecursion P ps
all_from P [] h = tt
all_from P (p ∷ ps) h = (h p (or_left (eqb p p) (is_among p ps) (eq-eqb p p refl)), all_from P ps (λ q is. h q (or_true (eqb q p) (is_among q ps) is)))

run_member : (p q n : ℕ) → q ≤ p → p < q + n → is_among p (range_with_len q n) ≡ true
run_member p q zero low high = absurd (omega arith)
run_member p q (suc n) low high = elim (cases_eq p q) [
  | inl e ↦ or_left (eqb p q) (is_among p (range_with_len (q + 1) n)) (eq-eqb p q e)
  | inr ne ↦ or_true (eqb p q) (is_among p (range_with_len (q + 1) n)) (run_member p (q + 1) n (omega arith) (omega arith))
]

home_member : (p i n j : ℕ) → i ≤ j → j < i + n → 312 + 4 * j ≤ p → p < 316 + 4 * j → is_among p (home_from i n) ≡ true
unfolding places.home_value
home_member p i zero j low high above below = absurd (omega arith)
home_member p i (suc n) j low high above below =
    among-append p (places.home_value i) (home_from (suc i) n) ∙ (elim (cases_eq i j) [
      | inl e ↦ or_left (is_among p (range_with_len (312 + 4 * i) 4)) (is_among p (home_from (suc i) n)) (run_member p (312 + 4 * i) 4 (omega arith) (omega arith))
      | inr ne ↦ or_true (is_among p (range_with_len (312 + 4 * i) 4)) (is_among p (home_from (suc i) n)) (home_member p (suc i) n j (omega arith) (omega arith) above below)
    ])

-- ---- the places that say nothing

abbrev home_free : List ℕ → List ℕ
home_free b = home_from (field b places.home_count) (16 - field b places.home_count)

abbrev white_free : List ℕ → Bool
white_free b = eqb (field b places.white_value) 0

abbrev black_free : List ℕ → Bool
black_free b = eqb (field b places.black_value) 0

abbrev event_there : List ℕ → Bool
event_there b = has_event_date (date_in b).year (field b places.event_code)

-- whether a place says nothing, by the parts
free_is : (b : List ℕ) (p : ℕ) → is_among p (free_places b) ≡ (is_among p places.spare || (is_among p places.stored_line || (is_among p (home_free b)
    || (is_among p (cond (white_free b) places.white_kind []) || (is_among p (cond (black_free b) places.black_kind []) || is_among p (cond (event_there b) [] event_places))))))
unfolding free_places
free_is b p =
    among-append p places.spare (places.stored_line ++ (home_free b ++ (cond (white_free b) places.white_kind [] ++ (cond (black_free b) places.black_kind [] ++ cond (event_there b) [] event_places))))
    ∙ ap (λ t. is_among p places.spare || t) (among-append p places.stored_line (home_free b ++ (cond (white_free b) places.white_kind [] ++ (cond (black_free b) places.black_kind [] ++ cond (event_there b) [] event_places)))
    ∙ ap (λ t. is_among p places.stored_line || t) (among-append p (home_free b) (cond (white_free b) places.white_kind [] ++ (cond (black_free b) places.black_kind [] ++ cond (event_there b) [] event_places))
    ∙ ap (λ t. is_among p (home_free b) || t) (among-append p (cond (white_free b) places.white_kind []) (cond (black_free b) places.black_kind [] ++ cond (event_there b) [] event_places)
    ∙ ap (λ t. is_among p (cond (white_free b) places.white_kind []) || t) (among-append p (cond (black_free b) places.black_kind []) (cond (event_there b) [] event_places)))))

-- a place that says something is in none of the parts
record Outside (b : List ℕ) (p : ℕ) : Type 0 where
  spare : is_among p places.spare ≡ false
  stored : is_among p places.stored_line ≡ false
  home : is_among p (home_free b) ≡ false
  white : is_among p (cond (white_free b) places.white_kind []) ≡ false
  black : is_among p (cond (black_free b) places.black_kind []) ≡ false
  event : is_among p (cond (event_there b) [] event_places) ≡ false

outside : (b : List ℕ) (p : ℕ) → is_among p (free_places b) ≡ false → Outside b p
outside b p e =
    let n1 = or_parts (is_among p places.spare) _ (sym (free_is b p) ∙ e) in
    let n2 = or_parts (is_among p places.stored_line) _ n1.1 in
    let n3 = or_parts (is_among p (home_free b)) _ n2.1 in
    let n4 = or_parts (is_among p (cond (white_free b) places.white_kind [])) _ n3.1 in
    let n5 = or_parts (is_among p (cond (black_free b) places.black_kind [])) (is_among p (cond (event_there b) [] event_places)) n4.1 in
    record { spare = n1.0; stored = n2.0; home = n3.0; white = n4.0; black = n5.0; event = n5.1 }

-- ---- two entries that say the same

-- the fields that say the same
record Same (b c : List ℕ) : Type 0 where
  offset : field b spots.offset ≡ field c spots.offset
  len : field b spots.len ≡ field c spots.len
  marks : field b spots.marks ≡ field c spots.marks
  deleted : field b spots.deleted ≡ field c spots.deleted
  under : field b spots.under ≡ field c spots.under
  promo : field b spots.promo ≡ field c spots.promo
  own_start : field b spots.own_start ≡ field c spots.own_start
  white : field b spots.white ≡ field c spots.white
  black : field b spots.black ≡ field c spots.black
  event : field b spots.event ≡ field c spots.event
  site : field b spots.site ≡ field c spots.site
  round : field b spots.round ≡ field c spots.round
  outcome : field b places.outcome ≡ field c places.outcome
  nags : field b spots.nags ≡ field c spots.nags
  comments : field b spots.comments ≡ field c spots.comments
  vars : field b spots.vars ≡ field c spots.vars
  eco : field b places.eco ≡ field c places.eco
  date : field b spots.date ≡ field c spots.date
  event_date : event_date_in b ≡ event_date_in c
  white_rating : rating_of (field b places.white_kind) (field b places.white_value) ≡ rating_of (field c places.white_kind) (field c places.white_value)
  black_rating : rating_of (field b places.black_kind) (field b places.black_value) ≡ rating_of (field c places.black_kind) (field c places.black_value)
  material : map (field b) spots.material ≡ map (field c) spots.material
  plies : field b spots.plies ≡ field c spots.plies
  home_count : field b places.home_count ≡ field c places.home_count
  home : map (home_in b) (range_with_len 0 16) ≡ map (home_in c) (range_with_len 0 16)

one_bit : (m n : ℕ) → m < 2 → n < 2 → eqb m 1 ≡ eqb n 1 → m ≡ n
one_bit zero zero lm ln e = refl
one_bit zero (suc zero) lm ln e = absurd cc
one_bit (suc zero) zero lm ln e = absurd cc
one_bit (suc zero) (suc zero) lm ln e = refl
one_bit (suc (suc m)) n lm ln e = absurd (omega arith)
one_bit zero (suc (suc n)) lm ln e = absurd (omega arith)
one_bit (suc zero) (suc (suc n)) lm ln e = absurd (omega arith)

code_back : (n : ℕ) → n ≤ 3 → code_of (outcome_of n) ≡ n
code_back zero le = refl
code_back (suc zero) le = refl
code_back (suc (suc zero)) le = refl
code_back (suc (suc (suc zero))) le = refl
code_back (suc (suc (suc (suc n)))) le = absurd (omega arith)

same_is : (b c : List ℕ) → Passed b → Passed c → entry_in b ≡ entry_in c → Same b c
unfolding entry_in
same_is b c pb pc e = record {
  offset = ap (λ (x : Entry). x.offset) e;
  len = ap (λ (x : Entry). x.len) e;
  marks = ap (λ (x : Entry). x.marks) e;
  deleted = one_bit _ _ (field-lt b spots.deleted) (field-lt c spots.deleted) (ap (λ (x : Entry). x.deleted) e);
  under = one_bit _ _ (field-lt b spots.under) (field-lt c spots.under) (ap (λ (x : Entry). x.under) e);
  promo = one_bit _ _ (field-lt b spots.promo) (field-lt c spots.promo) (ap (λ (x : Entry). x.promo) e);
  own_start = one_bit _ _ (field-lt b spots.own_start) (field-lt c spots.own_start) (ap (λ (x : Entry). x.own_start) e);
  white = ap (λ (x : Entry). x.white) e;
  black = ap (λ (x : Entry). x.black) e;
  event = ap (λ (x : Entry). x.event) e;
  site = ap (λ (x : Entry). x.site) e;
  round = ap (λ (x : Entry). x.round) e;
  outcome = sym (code_back (field b places.outcome) pb.outcome) ∙ ap (λ (x : Entry). code_of x.result) e ∙ code_back (field c places.outcome) pc.outcome;
  nags = ap (λ (x : Entry). x.nags) e;
  comments = ap (λ (x : Entry). x.comments) e;
  vars = ap (λ (x : Entry). x.vars) e;
  eco = ap (λ (x : Entry). x.eco) e;
  date = sym (date_number-date_of (field b spots.date)) ∙ ap (λ (x : Entry). date_number x.date) e ∙ date_number-date_of (field c spots.date);
  event_date = ap (λ (x : Entry). x.event_date) e;
  white_rating = ap (λ (x : Entry). x.white_rating) e;
  black_rating = ap (λ (x : Entry). x.black_rating) e;
  material = ap (λ (x : Entry). x.material) e;
  plies = ap (λ (x : Entry). x.plies) e;
  home_count = ap (λ (x : Entry). x.home_count) e;
  home = ap (λ (x : Entry). x.home) e;
}

-- the event dates have the same bits where there is one
event_is_there : (year code month day : ℕ) → has_event_date year code ≡ true → event_date_of year code month day ≡ record { year = (year + code) - 4; month = month; day = day }
event_is_there year code month day e = cond-true (has_event_date year code) (record { year = (year + code) - 4; month = month; day = day }) unknown_date e

event_is_not : (year code month day : ℕ) → has_event_date year code ≡ false → event_date_of year code month day ≡ unknown_date
event_is_not year code month day e = cond-false (has_event_date year code) (record { year = (year + code) - 4; month = month; day = day }) unknown_date e

record SameEvents (year k l m n x y : ℕ) : Type 0 where
  there : has_event_date year k ≡ has_event_date year l
  code : has_event_date year k ≡ true → k ≡ l
  month : has_event_date year k ≡ true → m ≡ n
  day : has_event_date year k ≡ true → x ≡ y

same_events_by : (year k l m n x y : ℕ) (t u : Bool) → has_event_date year k ≡ t → has_event_date year l ≡ u
    → event_date_of year k m x ≡ event_date_of year l n y → SameEvents year k l m n x y
same_events_by year k l m n x y true true et eu e =
    let both : record { year = (year + k) - 4; month = m; day = x } ≡ record { year = (year + l) - 4; month = n; day = y } =
    sym (event_is_there year k m x et) ∙ e ∙ event_is_there year l n y eu in
    let years : (year + k) - 4 ≡ (year + l) - 4 = ap (λ (d : Date). d.year) both in
    let hk = has_is year k et in
    let hl = has_is year l eu in
    record { there = et ∙ sym eu; code = λ _. omega (arith, hk, hl); month = λ _. ap (λ (d : Date). d.month) both; day = λ _. ap (λ (d : Date). d.day) both }
same_events_by year k l m n x y true false et eu e =
    let both : record { year = (year + k) - 4; month = m; day = x } ≡ unknown_date = sym (event_is_there year k m x et) ∙ e ∙ event_is_not year l n y eu in
    let years : (year + k) - 4 ≡ 0 = ap (λ (d : Date). d.year) both in
    let hk = has_is year k et in
    absurd (omega (arith, hk))
same_events_by year k l m n x y false true et eu e =
    let both : unknown_date ≡ record { year = (year + l) - 4; month = n; day = y } = sym (event_is_not year k m x et) ∙ e ∙ event_is_there year l n y eu in
    let years : 0 ≡ (year + l) - 4 = ap (λ (d : Date). d.year) both in
    let hl = has_is year l eu in
    absurd (omega (arith, hl))
same_events_by year k l m n x y false false et eu e =
    record { there = et ∙ sym eu; code = λ h. absurd (both_ways _ et h); month = λ h. absurd (both_ways _ et h); day = λ h. absurd (both_ways _ et h) }

same_events : (b c : List ℕ) → Same b c → SameEvents (date_in b).year (field b places.event_code) (field c places.event_code)
    (field b places.event_month) (field c places.event_month) (field b places.event_day) (field c places.event_day)
same_events b c same =
    let year : (date_in c).year ≡ (date_in b).year = ap (λ n. (date_of n).year) (sym same.date) in
    same_events_by (date_in b).year (field b places.event_code) (field c places.event_code) (field b places.event_month) (field c places.event_month)
    (field b places.event_day) (field c places.event_day) (has_event_date (date_in b).year (field b places.event_code)) (has_event_date (date_in b).year (field c places.event_code)) refl refl
    (same.event_date ∙ ap (λ y. event_date_of y (field c places.event_code) (field c places.event_month) (field c places.event_day)) year)

there_same : (b c : List ℕ) → Same b c → event_there c ≡ event_there b
there_same b c same =
    ap (λ n. has_event_date (date_of n).year (field c places.event_code)) (sym same.date) ∙ sym (same_events b c same).there

-- so the same places say nothing
frees_same : (b c : List ℕ) → Same b c → free_places c ≡ free_places b
unfolding free_places
frees_same b c same =
    let count = same.home_count in
    let white = ap (λ (r : Rating). r.value) same.white_rating in
    let black = ap (λ (r : Rating). r.value) same.black_rating in
    let there = there_same b c same in
    λ i. places.spare
    ++ (places.stored_line
    ++ (home_from (sym count i) (16 - sym count i)
    ++ (cond (eqb (sym white i) 0) places.white_kind []
    ++ (cond (eqb (sym black i) 0) places.black_kind []
    ++ cond (there i) [] event_places))))

-- ---- the bits

-- what is shown of each place
abbrev Kept : List ℕ → List ℕ → ℕ → Type 0
Kept b c p = is_among p (free_places b) ≡ false → bit_in c p ≡ bit_in b p

kept_field : (b c ps : List ℕ) → field b ps ≡ field c ps → AllByRecursion (Kept b c) ps
kept_field b c ps e = all_from (Kept b c) ps (λ p is _. all_at (λ q. bit_in c q ≡ bit_in b q) ps p (same_bits b c ps e) is)

kept_none : (b c ps : List ℕ) → ((p : ℕ) → Outside b p → is_among p ps ≡ false) → AllByRecursion (Kept b c) ps
kept_none b c ps h = all_from (Kept b c) ps (λ p is free. absurd (both_ways _ (h p (outside b p free)) is))

-- a part whose places say nothing where a test holds
kept_unless : (b c ps : List ℕ) (t : Bool) → ((p : ℕ) → Outside b p → is_among p (cond t ps []) ≡ false) → (t ≡ false → field b ps ≡ field c ps) → AllByRecursion (Kept b c) ps
kept_unless b c ps true out same = kept_none b c ps out
kept_unless b c ps false out same = kept_field b c ps (same refl)

kept_where : (b c ps : List ℕ) (t : Bool) → ((p : ℕ) → Outside b p → is_among p (cond t [] ps) ≡ false) → (t ≡ true → field b ps ≡ field c ps) → AllByRecursion (Kept b c) ps
kept_where b c ps false out same = kept_none b c ps out
kept_where b c ps true out same = kept_field b c ps (same refl)

kind_same : (k l v w : ℕ) → rating_of k v ≡ rating_of l w → eqb v 0 ≡ false → k ≡ l
kind_same k l v w e some =
    let value : v ≡ w = ap (λ (r : Rating). r.value) e in
    let kind : cond (eqb v 0) 0 k ≡ cond (eqb w 0) 0 l = ap (λ (r : Rating). r.kind) e in
    sym (cond-false (eqb v 0) 0 k some) ∙ kind ∙ cond-false (eqb w 0) 0 l (ap (λ n. eqb n 0) (sym value) ∙ some)

field_two : (b c xs ys : List ℕ) → field b xs ≡ field c xs → field b ys ≡ field c ys → field b (xs ++ ys) ≡ field c (xs ++ ys)
field_two b c xs ys x y = field-append b xs ys ∙ (λ i. x i * 2 ^ length ys + y i) ∙ sym (field-append c xs ys)

event_fields : (b c : List ℕ) → Same b c → event_there b ≡ true → field b event_places ≡ field c event_places
event_fields b c same there =
    let events = same_events b c same in
    field_two b c places.event_code (places.event_month ++ places.event_day) (events.code there)
    (field_two b c places.event_month places.event_day (events.month there) (events.day there))

material_field : (b c : List ℕ) (k : ℕ) → map (field b) spots.material ≡ map (field c) spots.material → get_or (map (field b) spots.material) k 0 ≡ get_or (map (field c) spots.material) k 0
material_field b c k e = ap (λ xs. get_or xs k 0) e

-- a home value
home_same : (b c : List ℕ) → Same b c → (j : ℕ) → j < 16 → home_in b j ≡ home_in c j
home_same b c same j lt =
    sym (get_or-map-range_with_len (home_in b) 0 16 j j 0 lt (omega arith)) ∙ ap (λ xs. get_or xs j 0) same.home ∙ get_or-map-range_with_len (home_in c) 0 16 j j 0 lt (omega arith)

kept_home : (b c : List ℕ) → Same b c → (p : ℕ) → 312 ≤ p → p < 376 → Kept b c p
unfolding places.home_value
kept_home b c same p low high free =
    let j : ℕ = (p - 312) / 4 in
    let out = outside b p free in
    elim (cases_lt ((p - 312) / 4) (field b places.home_count)) [
      | inl lt ↦
          let value : field b (places.home_value ((p - 312) / 4)) ≡ field c (places.home_value ((p - 312) / 4)) =
          sym (cond-true (ltb ((p - 312) / 4) (field b places.home_count)) (field b (places.home_value ((p - 312) / 4))) 0 (lt-ltb _ _ lt))
          ∙ home_same b c same ((p - 312) / 4) (omega arith)
          ∙ cond-true (ltb ((p - 312) / 4) (field c places.home_count)) (field c (places.home_value ((p - 312) / 4))) 0 (lt-ltb _ _ (subst (λ n. (p - 312) / 4 < n) same.home_count lt)) in
          all_at (λ q. bit_in c q ≡ bit_in b q) (places.home_value ((p - 312) / 4)) p (same_bits b c (places.home_value ((p - 312) / 4)) value)
          (run_member p (312 + 4 * ((p - 312) / 4)) 4 (omega arith) (omega arith))
      | inr ge ↦
          absurd (both_ways _ out.home (home_member p (field b places.home_count) (16 - field b places.home_count) ((p - 312) / 4) ge (omega arith) (omega arith) (omega arith)))
    ]

-- the places of several lists
abbrev joined : List (List ℕ) → List ℕ
joined [] = []
joined (xs ∷ lists) = xs ++ joined lists

abbrev AllOf : (ℕ → Type 0) → List (List ℕ) → Type 0
AllOf P [] = Unit {0}
AllOf P (xs ∷ lists) = AllByRecursion P xs × AllOf P lists

all_joined : (P : ℕ → Type 0) (lists : List (List ℕ)) → AllOf P lists → AllByRecursion P (joined lists)
all_joined P [] h = tt
all_joined P (xs ∷ lists) h = all-append P xs (joined lists) h.0 (all_joined P lists h.1)

-- the places before the home values, as the table has them
lists : List (List ℕ)
lists =
    spots.offset
    ∷ spots.len
    ∷ spots.marks
    ∷ spots.deleted
    ∷ spots.under
    ∷ spots.promo
    ∷ spots.own_start
    ∷ spots.white
    ∷ spots.black
    ∷ spots.event
    ∷ spots.site
    ∷ spots.round
    ∷ places.outcome
    ∷ spots.nags
    ∷ spots.comments
    ∷ spots.vars
    ∷ places.eco
    ∷ spots.date
    ∷ spots.plies
    ∷ places.home_count
    ∷ places.white_value
    ∷ places.black_value
    ∷ places.spare
    ∷ places.stored_line
    ∷ places.white_kind
    ∷ places.black_kind
    ∷ event_places
    ∷ bits 34 0 2
    ∷ bits 34 2 2
    ∷ bits 34 4 2
    ∷ bits 34 6 2
    ∷ bits 34 8 4
    ∷ bits 34 12 2
    ∷ bits 34 14 2
    ∷ bits 34 16 2
    ∷ bits 34 18 2
    ∷ bits 34 20 4
    ∷ []

lists_are_whole : agree_below (λ p. is_among p (joined lists)) (λ p. true) 312 ≡ true
unfolding lists places.outcome places.eco places.home_count places.spare places.stored_line places.white_kind places.white_value places.black_kind places.black_value places.event_code places.event_month places.event_day
lists_are_whole = refl

kept_lists : (b c : List ℕ) → Same b c → AllOf (Kept b c) lists
unfolding lists
kept_lists b c same = (
  kept_field b c spots.offset same.offset,
  (
    kept_field b c spots.len same.len,
    (
      kept_field b c spots.marks same.marks,
      (
        kept_field b c spots.deleted same.deleted,
        (
          kept_field b c spots.under same.under,
          (
            kept_field b c spots.promo same.promo,
            (
              kept_field b c spots.own_start same.own_start,
              (
                kept_field b c spots.white same.white,
                (
                  kept_field b c spots.black same.black,
                  (
                    kept_field b c spots.event same.event,
                    (
                      kept_field b c spots.site same.site,
                      (
                        kept_field b c spots.round same.round,
                        (
                          kept_field b c places.outcome same.outcome,
                          (
                            kept_field b c spots.nags same.nags,
                            (
                              kept_field b c spots.comments same.comments,
                              (
                                kept_field b c spots.vars same.vars,
                                (
                                  kept_field b c places.eco same.eco,
                                  (
                                    kept_field b c spots.date same.date,
                                    (
                                      kept_field b c spots.plies same.plies,
                                      (
                                        kept_field b c places.home_count same.home_count,
                                        (
                                          kept_field b c places.white_value (ap (λ (r : Rating). r.value) same.white_rating),
                                          (
                                            kept_field b c places.black_value (ap (λ (r : Rating). r.value) same.black_rating),
                                            (
                                              kept_none b c places.spare (λ p out. out.spare),
                                              (
                                                kept_none b c places.stored_line (λ p out. out.stored),
                                                (
                                                  kept_unless b c places.white_kind (white_free b) (λ p out. out.white) (kind_same _ _ _ _ same.white_rating),
                                                  (
                                                    kept_unless b c places.black_kind (black_free b) (λ p out. out.black) (kind_same _ _ _ _ same.black_rating),
                                                    (
                                                      kept_where b c event_places (event_there b) (λ p out. out.event) (event_fields b c same),
                                                      (
                                                        kept_field b c (bits 34 0 2) (material_field b c 0 same.material),
                                                        (
                                                          kept_field b c (bits 34 2 2) (material_field b c 1 same.material),
                                                          (
                                                            kept_field b c (bits 34 4 2) (material_field b c 2 same.material),
                                                            (
                                                              kept_field b c (bits 34 6 2) (material_field b c 3 same.material),
                                                              (
                                                                kept_field b c (bits 34 8 4) (material_field b c 4 same.material),
                                                                (
                                                                  kept_field b c (bits 34 12 2) (material_field b c 5 same.material),
                                                                  (
                                                                    kept_field b c (bits 34 14 2) (material_field b c 6 same.material),
                                                                    (
                                                                      kept_field b c (bits 34 16 2) (material_field b c 7 same.material),
                                                                      (
                                                                        kept_field b c (bits 34 18 2) (material_field b c 8 same.material),
                                                                        (
                                                                          kept_field b c (bits 34 20 4) (material_field b c 9 same.material),
                                                                          tt,
                                                                        ),
                                                                      ),
                                                                    ),
                                                                  ),
                                                                ),
                                                              ),
                                                            ),
                                                          ),
                                                        ),
                                                      ),
                                                    ),
                                                  ),
                                                ),
                                              ),
                                            ),
                                          ),
                                        ),
                                      ),
                                    ),
                                  ),
                                ),
                              ),
                            ),
                          ),
                        ),
                      ),
                    ),
                  ),
                ),
              ),
            ),
          ),
        ),
      ),
    ),
  ),
)

kept_all : (b c : List ℕ) → Same b c → (p : ℕ) → p < 376 → Kept b c p
kept_all b c same p lt = elim (cases_lt p 312) [
  | inl low ↦ all_at (Kept b c) (joined lists) p (all_joined (Kept b c) lists (kept_lists b c same)) (agree_below_at (λ q. is_among q (joined lists)) (λ q. true) 312 p lists_are_whole low)
  | inr high ↦ kept_home b c same p high lt
]

-- What is written again are the bytes that were read, with zeros in the places of theirs that say nothing.
pub written_is_cleared : (b c : List ℕ) (e : Entry) → entry_read b ≡ Ok e → IsWritten c e → AreCleared b c
written_is_cleared b c e read written p lt =
    let pb = passed b e read in
    let pc = passed c e written.says in
    let same = same_is b c pb.0 pc.0 (pb.1 ∙ sym pc.1) in
    elim (cases_Bool (is_among p (free_places b))) [
      | inl free ↦
          all_at (λ q. bit_in c q ≡ 0) (free_places c) p (clear_bits c (free_places c) written.clear) (ap (is_among p) (frees_same b c same) ∙ free)
          ∙ sym (cond-true (is_among p (free_places b)) 0 (bit_in b p) free)
      | inr some ↦ kept_all b c same p lt some ∙ sym (cond-false (is_among p (free_places b)) 0 (bit_in b p) some)
    ]
