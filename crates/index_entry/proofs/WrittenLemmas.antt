-- The bytes that are written say the entry, and nothing else.
use Rattle.std.proofs.Common.{◌≡◌, ◌≤◌, ◌<◌, ◌+◌, ◌-◌, ◌*◌, ◌/◌, ◌%◌, ℕ, zero, suc, Bool, true, false, cond, eqb, ltb, leb, ◌&&◌, ◌||◌, List, [], ◌∷◌, ◌++◌, length, map, get_or, Ok, Err, refl, sym, ap, ◌∙◌, arith, inl, inr, eq-eqb}
use Rattle.std.specs.Prelude.{IsTrue}
use Rattle.std.specs.List.{range_with_len}
use Rattle.std.proofs.lemmas.Bool.{lt-ltb, le-ltb, leb-true, eqb-true, cases_eq, cases_lt, cases_Bool, and_parts, ne_eqb, cond-true, cond-false}
use Rattle.std.proofs.lemmas.List.FromFn.{fill_by_all}
use Rattle.cell_core.specs.Steps.{◌>>=◌}
use Rattle.byteorder.specs.Endian.{big_from}
use Rattle.game_tree.specs.Date.{IsDate, unknown_date, is_unknown, is_near, keeps_rule, date_of, date_number}
use Rattle.game_tree.specs.Head.{IsRating}
use Rattle.game_tree.proofs.DateLemmas.{date_of-date_number}
use Rattle.game_tree.specs.declared.date.Date.{Date}
use Rattle.game_tree.specs.declared.head.Outcome.{Outcome}
use Rattle.game_tree.specs.declared.head.Outcome.TheVariants.{Unknown, White, Black, Draw}
use Rattle.game_tree.specs.declared.head.Rating.{Rating}
use Rattle.index_entry.specs.declared.entry.Entry.{Entry}
use Rattle.index_entry.specs.declared.fault.EntryFault.TheVariants as faults
use Rattle.index_entry.specs.Bits.{field}
use Rattle.index_entry.specs.Places as places
use Rattle.index_entry.specs.Entry.{date_in, has_event_date, home_from, event_places, free_places, IsWritten, AreCounts, IsEntry}
use Rattle.index_entry.specs.Reading.{outcome_at, eco_at, event_at, dates_at, rating_at, material_at, half, home_at, fields_at, entry_at}
use Rattle.index_entry.specs.Writing.{bit_of, code_of, flags_of, counts_of, event_number, dates_word, rating_word, place_bytes, id_bytes, game_bytes, two_of, last_bytes, written}
use Rattle.index_entry.proofs.BitLemmas.{IsBytes, field-append}
use Rattle.index_entry.proofs.FieldLemmas as fields
use Rattle.index_entry.proofs.ReadLemmas.{read_is, date_read_is, home_count_read_is, white_value_read_is, white_kind_read_is, black_value_read_is, black_kind_read_is}

-- ---- the parts of an entry

code_small : (o : Outcome) → code_of o < 4
code_small Unknown = omega arith
code_small White = omega arith
code_small Black = omega arith
code_small Draw = omega arith

outcome_again : (o : Outcome) (n : ℕ) → n ≡ code_of o → outcome_at n ≡ Ok o
unfolding outcome_at
outcome_again Unknown n e = rw e refl
outcome_again White n e = rw e refl
outcome_again Black n e = rw e refl
outcome_again Draw n e = rw e refl

eco_again : (eco n : ℕ) → eco ≤ 65500 → n ≡ eco → eco_at n ≡ Ok eco
unfolding eco_at
eco_again eco n le e = rw (e, le-ltb 65500 eco le) refl

rating_again : (r : Rating) (n : ℕ) → IsRating r → n ≡ rating_word r → rating_at n ≡ Ok r
unfolding rating_at rating_word
rating_again r n is e =
    let value : n % 4096 ≡ r.value = omega (arith, is.value) in
    let kind : n / 4096 ≡ r.kind = omega (arith, is.value) in
    rw (kind, value, le-ltb 6 r.kind is.kind) (elim (cases_eq r.value 0) [
      | inl none ↦ rw (eq-eqb r.value 0 none) (λ i. Ok (record { value = r.value; kind = sym (is.none none) i }))
      | inr some ↦ rw (ne_eqb r.value 0 some) refl
    ])

-- a year's distance from the game's year
record Near (event game : Date) : Type 0 where
  low : 1 ≤ event.year
  high : event.year ≤ 2047
  known : 1 ≤ game.year
  above : event.year ≤ game.year + 3
  below : game.year ≤ event.year + 3

near_is : (event game : Date) → is_near event game ≡ true → Near event game
near_is event game e =
    let a = and_parts (leb 1 event.year && leb event.year 2047 && leb 1 game.year && leb event.year (game.year + 3)) (leb game.year (event.year + 3)) e in
    let b = and_parts (leb 1 event.year && leb event.year 2047 && leb 1 game.year) (leb event.year (game.year + 3)) a.0 in
    let c = and_parts (leb 1 event.year && leb event.year 2047) (leb 1 game.year) b.0 in
    let d = and_parts (leb 1 event.year) (leb event.year 2047) c.0 in
    record {
      low = leb-true _ _ d.0;
      high = leb-true _ _ d.1;
      known = leb-true _ _ c.1;
      above = leb-true _ _ b.1;
      below = leb-true _ _ a.1;
    }

unknown_is : (event : Date) → is_unknown event ≡ true → event ≡ unknown_date
unknown_is event e =
    let a = and_parts (eqb event.year 0 && eqb event.month 0) (eqb event.day 0) e in
    let b = and_parts (eqb event.year 0) (eqb event.month 0) a.0 in
    let year = eqb-true event.year 0 b.0 in
    let month = eqb-true event.month 0 b.1 in
    let day = eqb-true event.day 0 a.1 in
    λ i. record { year = year i; month = month i; day = day i }

-- what an event date is and how it is written
data Kept (event game : Date) : Type 0 where
  kept_none : event ≡ unknown_date → event_number event game ≡ 0 → Kept event game
  kept_near : Near event game → event_number event game ≡ ((event.year + 4) - game.year) * 512 + event.month * 32 + event.day → Kept event game

near_from : (unknown near : Bool) → unknown ≡ false → IsTrue (unknown || near) → near ≡ true
near_from true near e rule = absurd cc
near_from false true e rule = refl
near_from false false e rule = rule

kept : (event game : Date) → IsTrue (keeps_rule event game) → Kept event game
unfolding event_number
kept event game rule = elim (cases_Bool (is_unknown event)) [
  | inl none ↦ kept_none (unknown_is event none) (cond-true (is_unknown event) 0 (((event.year + 4) - game.year) * 512 + event.month * 32 + event.day) none)
  | inr some ↦ kept_near (near_is event game (near_from (is_unknown event) (is_near event game) some rule)) (cond-false (is_unknown event) 0 (((event.year + 4) - game.year) * 512 + event.month * 32 + event.day) some)
]

has_again : (year code : ℕ) → 0 < code → 0 < year → 4 < year + code → year + code < 2052 → has_event_date year code ≡ true
has_again year code a b c d = rw (lt-ltb 0 code a, lt-ltb 0 year b, lt-ltb 4 (year + code) c, lt-ltb (year + code) 2052 d) refl

event_again : (event game : Date) (w d : ℕ) → IsDate event → IsDate game → IsTrue (keeps_rule event game) → d < 1048576
    → w ≡ event_number event game * 1048576 + d → event_at game w ≡ event
unfolding event_at
event_again event game w d is of rule small e = elim (kept event game rule) [
  | kept_none none number ↦
      let code : w / 536870912 ≡ 0 = omega arith in
      rw code (sym none)
  | kept_near near number ↦
      let month_fits = is.month in
      let day_fits = is.day in
      let code : w / 536870912 ≡ (event.year + 4) - game.year = omega (arith, near) in
      let month : w / 33554432 % 16 ≡ event.month = omega (arith, near) in
      let day : w / 1048576 % 32 ≡ event.day = omega (arith, near) in
      let year : (game.year + ((event.year + 4) - game.year)) - 4 ≡ event.year = omega (arith, near) in
      let has : has_event_date game.year ((event.year + 4) - game.year) ≡ true =
      has_again game.year ((event.year + 4) - game.year) (omega (arith, near)) (omega (arith, near)) (omega (arith, near)) (omega (arith, near)) in
      rw (code, month, day, has, year) refl
]

date_small : (d : Date) → IsDate d → date_number d < 1048576
date_small d is = omega (arith, is)

dates_again : (e : Entry) (w : ℕ) → IsDate e.date → IsDate e.event_date → IsTrue (keeps_rule e.event_date e.date) → w ≡ dates_word e → dates_at w ≡ Ok (e.date, e.event_date)
unfolding dates_at dates_word
dates_again e w date event rule is =
    let small = date_small e.date date in
    let number : w % 1048576 ≡ date_number e.date = omega arith in
    let game : date_of (w % 1048576) ≡ e.date = ap date_of number ∙ date_of-date_number e.date date in
    let other : event_at e.date w ≡ e.event_date = event_again e.event_date e.date w (date_number e.date) event date rule small is in
    let with_game : dates_at w ≡ cond (ltb 12 e.date.month || ltb 12 (event_at e.date w).month) (Err faults.Date) (Ok (e.date, event_at e.date w)) =
    λ i. cond (ltb 12 (game i).month || ltb 12 (event_at (game i) w).month) (Err faults.Date) (Ok (game i, event_at (game i) w)) in
    with_game ∙ rw (other, le-ltb 12 e.date.month date.month, le-ltb 12 e.event_date.month event.month) refl

bit_again : (t : Bool) (n : ℕ) → n ≡ bit_of t → eqb n 1 ≡ t
bit_again true n e = rw e refl
bit_again false n e = rw e refl

bit_small : (t : Bool) → bit_of t < 2
bit_small true = omega arith
bit_small false = omega arith

material_again : (m : List ℕ) → AreCounts m → (a b c : ℕ)
    → a ≡ get_or m 0 0 * 64 + get_or m 1 0 * 16 + get_or m 2 0 * 4 + get_or m 3 0
    → b ≡ get_or m 4 0 * 16 + get_or m 5 0 * 4 + get_or m 6 0
    → c ≡ get_or m 7 0 * 64 + get_or m 8 0 * 16 + get_or m 9 0 → material_at a b c ≡ m
unfolding material_at
material_again m are a b c ea eb ec =
    let whole : m ≡ map (λ i. get_or m i 0) (range_with_len 0 10) = fill_by_all (λ i. get_or m i 0) m 10 0 are.size (λ k lt. refl) in
    let s0 : get_or m 0 0 ≤ 3 = are.small 0 in
    let s1 : get_or m 1 0 ≤ 3 = are.small 1 in
    let s2 : get_or m 2 0 ≤ 3 = are.small 2 in
    let s3 : get_or m 3 0 ≤ 3 = are.small 3 in
    let s4 : get_or m 4 0 ≤ 15 = are.small 4 in
    let s5 : get_or m 5 0 ≤ 3 = are.small 5 in
    let s6 : get_or m 6 0 ≤ 3 = are.small 6 in
    let s7 : get_or m 7 0 ≤ 3 = are.small 7 in
    let s8 : get_or m 8 0 ≤ 3 = are.small 8 in
    let s9 : get_or m 9 0 ≤ 15 = are.small 9 in
    let m0 : a / 64 ≡ get_or m 0 0 = omega arith in
    let m1 : a / 16 % 4 ≡ get_or m 1 0 = omega arith in
    let m2 : a / 4 % 4 ≡ get_or m 2 0 = omega arith in
    let m3 : a % 4 ≡ get_or m 3 0 = omega arith in
    let m4 : b / 16 ≡ get_or m 4 0 = omega arith in
    let m5 : b / 4 % 4 ≡ get_or m 5 0 = omega arith in
    let m6 : b % 4 ≡ get_or m 6 0 = omega arith in
    let m7 : c / 64 ≡ get_or m 7 0 = omega arith in
    let m8 : c / 16 % 4 ≡ get_or m 8 0 = omega arith in
    let m9 : c % 16 ≡ get_or m 9 0 = omega arith in
    let all : material_at a b c ≡ map (λ i. get_or m i 0) (range_with_len 0 10) =
    λ i. m0 i ∷ m1 i ∷ m2 i ∷ m3 i ∷ m4 i ∷ m5 i ∷ m6 i ∷ m7 i ∷ m8 i ∷ m9 i ∷ [] in
    all ∙ sym whole

-- ---- the whole entry

two_at : (e : Entry) (j : ℕ) → j < 8 → get_or (written e) (39 + j) 0 ≡ two_of e.home (2 * j)
unfolding written place_bytes id_bytes game_bytes last_bytes
two_at e zero lt = refl
two_at e (suc zero) lt = refl
two_at e (suc (suc zero)) lt = refl
two_at e (suc (suc (suc zero))) lt = refl
two_at e (suc (suc (suc (suc zero)))) lt = refl
two_at e (suc (suc (suc (suc (suc zero))))) lt = refl
two_at e (suc (suc (suc (suc (suc (suc zero)))))) lt = refl
two_at e (suc (suc (suc (suc (suc (suc (suc zero))))))) lt = refl
two_at e (suc (suc (suc (suc (suc (suc (suc (suc j)))))))) lt = absurd (omega arith)

-- a half of the byte of two values
half_again : (values : List ℕ) (i : ℕ) → ((k : ℕ) → get_or values k 0 < 16) → half (two_of values (2 * (i / 2))) i ≡ get_or values i 0
half_again values i small = elim (cases_eq (i % 2) 0) [
  | inl even ↦
      let place : 2 * (i / 2) ≡ i = omega arith in
      rw (eq-eqb (i % 2) 0 even, place) (omega (arith, small (i + 1)))
  | inr odd ↦
      let place : 2 * (i / 2) + 1 ≡ i = omega arith in
      let small_low = small (2 * (i / 2) + 1) in
      let low : two_of values (2 * (i / 2)) % 16 ≡ get_or values (2 * (i / 2) + 1) 0 = omega arith in
      rw (ne_eqb (i % 2) 0 odd) (low ∙ ap (λ k. get_or values k 0) place)
]

count_again : (e : Entry) → IsEntry e → get_or (written e) 38 0 % 64 ≡ e.home_count
unfolding written place_bytes id_bytes game_bytes last_bytes
count_again e is = omega (arith, is.home_count)

home_value_again : (e : Entry) → IsEntry e → (i : ℕ) → i < 16 → half (get_or (written e) (39 + i / 2) 0) i ≡ get_or e.home i 0
home_value_again e is i lt =
    ap (λ byte. half byte i) (two_at e (i / 2) (omega arith)) ∙ half_again e.home i is.home.small

home_again : (e : Entry) → IsEntry e → map (home_at (written e)) (range_with_len 0 16) ≡ e.home
unfolding home_at
home_again e is = sym (fill_by_all (home_at (written e)) e.home 16 0 is.home.size (λ i lt.
    let count = count_again e is in
    let value = home_value_again e is i lt in
    elim (cases_lt i e.home_count) [
      | inl within ↦ sym (rw (count, lt-ltb i e.home_count within) value)
      | inr past ↦ rw (count, le-ltb i e.home_count past) (is.home.past i past)
    ]))

-- the five bits of the flags
flags_again : (m d u p o : ℕ) → d < 2 → u < 2 → p < 2 → o < 2 → m < 4096 → (n : ℕ) → n ≡ m * 16 + d * 8 + u * 4 + p * 2 + o
    → (n / 16 ≡ m) × (n / 8 % 2 ≡ d) × (n / 4 % 2 ≡ u) × (n / 2 % 2 ≡ p) × (n % 2 ≡ o)
flags_again m d u p o ld lu lp lo lm n e = (omega arith, omega arith, omega arith, omega arith, omega arith)

fields_again : (e : Entry) → IsEntry e → e.offset < 4294967296 → fields_at (written e) e.result e.eco (e.date, e.event_date) e.white_rating e.black_rating ≡ e
unfolding fields_at written place_bytes id_bytes game_bytes last_bytes flags_of counts_of
fields_again e is fits =
    let d = bit_small e.deleted in
    let u = bit_small e.under in
    let p = bit_small e.promo in
    let o = bit_small e.own_start in
    let r = code_small e.result in
    let flags : big_from 7 2 (written e) ≡ e.marks % 4096 * 16 + bit_of e.deleted * 8 + bit_of e.under * 4 + bit_of e.promo * 2 + bit_of e.own_start = omega arith in
    let parts = flags_again (e.marks % 4096) (bit_of e.deleted) (bit_of e.under) (bit_of e.promo) (bit_of e.own_start) d u p o (omega arith) (big_from 7 2 (written e)) flags in
    let offset : big_from 0 4 (written e) ≡ e.offset = omega arith in
    let len : get_or (written e) 6 0 / 128 * 65536 + big_from 4 2 (written e) ≡ e.len = omega arith in
    let marks : get_or (written e) 6 0 % 64 * 4096 + big_from 7 2 (written e) / 16 ≡ e.marks = omega arith in
    let white : get_or (written e) 9 0 / 16 * 65536 + big_from 10 2 (written e) ≡ e.white = omega arith in
    let black : get_or (written e) 9 0 % 16 * 65536 + big_from 12 2 (written e) ≡ e.black = omega arith in
    let event : get_or (written e) 14 0 / 32 * 65536 + big_from 15 2 (written e) ≡ e.event = omega arith in
    let site : get_or (written e) 14 0 / 4 % 8 * 65536 + big_from 17 2 (written e) ≡ e.site = omega arith in
    let round : get_or (written e) 14 0 % 4 * 65536 + big_from 19 2 (written e) ≡ e.round = omega arith in
    let vars : get_or (written e) 22 0 % 16 ≡ e.vars = omega arith in
    let comments : get_or (written e) 22 0 / 16 ≡ e.comments = omega arith in
    let nags : get_or (written e) 21 0 % 16 ≡ e.nags = omega arith in
    let material = material_again e.material is.material (get_or (written e) 34 0) (get_or (written e) 35 0) (get_or (written e) 36 0) refl refl refl in
    let plies : get_or (written e) 38 0 / 64 * 256 + get_or (written e) 37 0 ≡ e.plies = omega arith in
    λ i. record {
      offset = offset i;
      len = len i;
      own_start = bit_again e.own_start (big_from 7 2 (written e) % 2) parts.4 i;
      promo = bit_again e.promo (big_from 7 2 (written e) / 2 % 2) parts.3 i;
      under = bit_again e.under (big_from 7 2 (written e) / 4 % 2) parts.2 i;
      deleted = bit_again e.deleted (big_from 7 2 (written e) / 8 % 2) parts.1 i;
      marks = marks i;
      white = white i;
      black = black i;
      event = event i;
      site = site i;
      round = round i;
      vars = vars i;
      comments = comments i;
      nags = nags i;
      result = e.result;
      eco = e.eco;
      date = e.date;
      event_date = e.event_date;
      white_rating = e.white_rating;
      black_rating = e.black_rating;
      material = material i;
      plies = plies i;
      home_count = count_again e is i;
      home = home_again e is i;
    }

number_small : (e : Entry) → IsEntry e → event_number e.event_date e.date < 4096
number_small e is = elim (kept e.event_date e.date is.event_rule) [
  | kept_none none number ↦ omega arith
  | kept_near near number ↦
      let month_fits = is.event_date.month in
      let day_fits = is.event_date.day in
      omega (arith, near)
]

word_small : (e : Entry) → IsEntry e → dates_word e < 4294967296
unfolding dates_word
word_small e is =
    let number = number_small e is in
    let date = date_small e.date is.date in
    omega arith

says_again : (e : Entry) → IsEntry e → e.offset < 4294967296 → entry_at (written e) ≡ Ok e
unfolding entry_at written place_bytes id_bytes game_bytes last_bytes counts_of rating_word
says_again e is fits =
    let r = code_small e.result in
    let outcome : outcome_at (get_or (written e) 21 0 / 16) ≡ Ok e.result = outcome_again e.result (get_or (written e) 21 0 / 16) (omega (arith, is)) in
    let eco : eco_at (big_from 23 2 (written e)) ≡ Ok e.eco = eco_again e.eco (big_from 23 2 (written e)) is.eco (omega (arith, is)) in
    let word = word_small e is in
    let dates : dates_at (big_from 25 4 (written e)) ≡ Ok (e.date, e.event_date) =
    dates_again e (big_from 25 4 (written e)) is.date is.event_date is.event_rule (omega arith) in
    let white_fits = is.white_rating.value in
    let white_kind = is.white_rating.kind in
    let black_fits = is.black_rating.value in
    let black_kind = is.black_rating.kind in
    let white : rating_at (big_from 29 2 (written e)) ≡ Ok e.white_rating = rating_again e.white_rating (big_from 29 2 (written e)) is.white_rating (omega arith) in
    let black : rating_at (big_from 31 2 (written e)) ≡ Ok e.black_rating = rating_again e.black_rating (big_from 31 2 (written e)) is.black_rating (omega arith) in
    let steps : entry_at (written e) ≡ (Ok e.result >>= λ result. Ok e.eco >>= λ eco. Ok (e.date, e.event_date) >>= λ dates. Ok e.white_rating >>= λ white. Ok e.black_rating >>= λ black. Ok (fields_at (written e) result eco dates white black)) =
    λ i. outcome i >>= λ result. eco i >>= λ eco. dates i >>= λ dates. white i >>= λ white. black i >>= λ black. Ok (fields_at (written e) result eco dates white black) in
    steps ∙ ap (λ x. Ok x) (fields_again e is fits)

-- ---- the places that say nothing

none_append : (b xs ys : List ℕ) → field b xs ≡ 0 → field b ys ≡ 0 → field b (xs ++ ys) ≡ 0
none_append b xs ys x y = field-append b xs ys ∙ rw (x, y) (omega arith)

none_cond : (b : List ℕ) (t : Bool) (xs : List ℕ) → (t ≡ true → field b xs ≡ 0) → field b (cond t xs []) ≡ 0
unfolding field
none_cond b true xs h = h refl
none_cond b false xs h = refl

none_not : (b : List ℕ) (t : Bool) (xs : List ℕ) → (t ≡ false → field b xs ≡ 0) → field b (cond t [] xs) ≡ 0
unfolding field
none_not b true xs h = refl
none_not b false xs h = h refl

none_home : (e : Entry) → IsEntry e → IsBytes (written e) → (n i : ℕ) → e.home_count ≤ i → n ≤ 16 - i → field (written e) (home_from i n) ≡ 0
unfolding field
none_home e is h zero i past fits = refl
none_home e is h (suc n) i past fits =
    none_append (written e) (places.home_value i) (home_from (suc i) n)
    (fields.home_value-is (written e) i h ∙ home_value_again e is i (omega arith) ∙ is.home.past i past)
    (none_home e is h n (suc i) (omega arith) (omega arith))

none_event : (e : Entry) → IsEntry e → IsBytes (written e) → (w : ℕ) → w ≡ big_from 25 4 (written e) → w ≡ dates_word e
    → has_event_date (date_of (w % 1048576)).year (field (written e) places.event_code) ≡ false → field (written e) event_places ≡ 0
unfolding dates_word
none_event e is h w read word none =
    let small = date_small e.date is.date in
    let fits = word_small e is in
    let code : field (written e) places.event_code ≡ w / 536870912 % 8 = fields.event_code-is (written e) h ∙ ap (λ n. n / 536870912 % 8) (sym read) in
    let month : field (written e) places.event_month ≡ w / 33554432 % 16 = fields.event_month-is (written e) h ∙ ap (λ n. n / 33554432 % 16) (sym read) in
    let day : field (written e) places.event_day ≡ w / 1048576 % 32 = fields.event_day-is (written e) h ∙ ap (λ n. n / 1048576 % 32) (sym read) in
    let number : w % 1048576 ≡ date_number e.date = omega arith in
    let year : (date_of (w % 1048576)).year ≡ e.date.year = ap (λ (d : Date). d.year) (ap date_of number ∙ date_of-date_number e.date is.date) in
    elim (kept e.event_date e.date is.event_rule) [
      | kept_none known none_written ↦
          none_append (written e) places.event_code (places.event_month ++ places.event_day) (omega arith)
          (none_append (written e) places.event_month places.event_day (omega arith) (omega arith))
      | kept_near near number ↦
          let month_fits = is.event_date.month in
          let day_fits = is.event_date.day in
          let has : has_event_date (date_of (w % 1048576)).year (field (written e) places.event_code) ≡ true =
          has_again (date_of (w % 1048576)).year (field (written e) places.event_code) (omega (arith, near)) (omega (arith, near)) (omega (arith, near)) (omega (arith, near)) in
          absurd (cc (has, none))
    ]

size_again : (e : Entry) → length (written e) ≡ 47
unfolding written place_bytes id_bytes game_bytes last_bytes
size_again e = refl

spare_again : (e : Entry) → IsEntry e → IsBytes (written e) → field (written e) places.spare ≡ 0
unfolding written place_bytes id_bytes game_bytes last_bytes
spare_again e is h =
    let read : field (written e) places.spare ≡ get_or (written e) 6 0 / 64 % 2 = omega (arith, fields.spare-is (written e) h) in
    read ∙ omega (arith, is.marks, is.len)

stored_again : (e : Entry) → IsBytes (written e) → field (written e) places.stored_line ≡ 0
unfolding written place_bytes id_bytes game_bytes last_bytes
stored_again e h = fields.stored_line-is (written e) h

white_kind_again : (e : Entry) → IsEntry e → IsBytes (written e) → eqb (field (written e) places.white_value) 0 ≡ true → field (written e) places.white_kind ≡ 0
unfolding written place_bytes id_bytes game_bytes last_bytes rating_word
white_kind_again e is h none =
    let fits = is.white_rating.value in
    let kind_fits = is.white_rating.kind in
    let zero_value = eqb-true (field (written e) places.white_value) 0 none in
    let value : field (written e) places.white_value ≡ e.white_rating.value = white_value_read_is (written e) h ∙ omega arith in
    let kind : field (written e) places.white_kind ≡ e.white_rating.kind = white_kind_read_is (written e) h ∙ omega arith in
    kind ∙ is.white_rating.none (omega arith)

black_kind_again : (e : Entry) → IsEntry e → IsBytes (written e) → eqb (field (written e) places.black_value) 0 ≡ true → field (written e) places.black_kind ≡ 0
unfolding written place_bytes id_bytes game_bytes last_bytes rating_word
black_kind_again e is h none =
    let fits = is.black_rating.value in
    let kind_fits = is.black_rating.kind in
    let zero_value = eqb-true (field (written e) places.black_value) 0 none in
    let value : field (written e) places.black_value ≡ e.black_rating.value = black_value_read_is (written e) h ∙ omega arith in
    let kind : field (written e) places.black_kind ≡ e.black_rating.kind = black_kind_read_is (written e) h ∙ omega arith in
    kind ∙ is.black_rating.none (omega arith)

word_again : (e : Entry) → IsEntry e → big_from 25 4 (written e) ≡ dates_word e
unfolding written place_bytes id_bytes game_bytes last_bytes
word_again e is =
    let small = word_small e is in
    omega arith

event_places_again : (e : Entry) → IsEntry e → IsBytes (written e) → has_event_date (date_in (written e)).year (field (written e) places.event_code) ≡ false → field (written e) event_places ≡ 0
event_places_again e is h none =
    none_event e is h (big_from 25 4 (written e)) refl (word_again e is)
    (sym (ap (λ (d : Date). has_event_date d.year (field (written e) places.event_code)) (date_read_is (written e) h)) ∙ none)

clear_again : (e : Entry) → IsEntry e → IsBytes (written e) → field (written e) (free_places (written e)) ≡ 0
unfolding free_places
clear_again e is h =
    let count : field (written e) places.home_count ≡ e.home_count = home_count_read_is (written e) h ∙ count_again e is in
    none_append (written e) places.spare _ (spare_again e is h)
    (none_append (written e) places.stored_line _ (stored_again e h)
    (none_append (written e) (home_from (field (written e) places.home_count) (16 - field (written e) places.home_count)) _
    (none_home e is h (16 - field (written e) places.home_count) (field (written e) places.home_count) (omega arith) (omega arith))
    (none_append (written e) (cond (eqb (field (written e) places.white_value) 0) places.white_kind []) _
    (none_cond (written e) (eqb (field (written e) places.white_value) 0) places.white_kind (white_kind_again e is h))
    (none_append (written e) (cond (eqb (field (written e) places.black_value) 0) places.black_kind []) _
    (none_cond (written e) (eqb (field (written e) places.black_value) 0) places.black_kind (black_kind_again e is h))
    (none_not (written e) (has_event_date (date_in (written e)).year (field (written e) places.event_code)) event_places (event_places_again e is h))))))

-- An entry's bytes are its written form.
pub is_written : (e : Entry) → IsEntry e → e.offset < 4294967296 → IsBytes (written e) → IsWritten (written e) e
is_written e is fits h = record {
  size = size_again e;
  says = read_is (written e) h ∙ says_again e is fits;
  clear = clear_again e is h;
}
