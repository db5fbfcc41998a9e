-- What the places say is what the functions read.
use Rattle.std.proofs.Common.{◌≡◌, ◌<◌, ◌+◌, ◌*◌, ◌-◌, ◌/◌, ◌%◌, ◌^◌, ℕ, zero, suc, Bool, true, false, cond, eqb, ltb, ◌||◌, List, [], ◌∷◌, map, get_or, Some, None, Ok, Err, refl, sym, ap, ◌∙◌, arith}
use Rattle.std.specs.List.{range_with_len}
use Rattle.std.proofs.lemmas.Bool.{lt-ltb}
use Rattle.std.proofs.lemmas.List.FromFn.{get_or-map-range_with_len}
use Rattle.std.specs.Option.{option_map_or}
use Rattle.cell_core.specs.Steps.{◌>>=◌}
use Rattle.byteorder.specs.Endian.{big_from}
use Rattle.byteorder.specs.Numbers.{big_from-lt}
use Rattle.game_tree.specs.Date.{date_of}
use Rattle.game_tree.specs.declared.head.Outcome.TheVariants.{Unknown}
use Rattle.index_entry.specs.declared.entry.Entry.{Entry}
use Rattle.index_entry.specs.declared.fault.EntryFault.TheVariants as faults
use Rattle.index_entry.specs.Bits.{field}
use Rattle.index_entry.specs.Places as places
use Rattle.index_entry.proofs.FieldPlaces as spots
use Rattle.index_entry.specs.Entry.{outcome_of, date_in, event_date_in, event_date_of, rating_of, is_bad_rating, home_in, entry_in, fault_in, entry_read}
use Rattle.index_entry.specs.Reading.{outcome_at, eco_at, event_at, dates_at, rating_at, material_at, home_at, fields_at, entry_at}
use Rattle.index_entry.proofs.BitLemmas.{IsBytes, field-run}
use Rattle.index_entry.proofs.FieldLemmas as fields

pub date_read_is : (b : List ℕ) → IsBytes b → date_in b ≡ date_of (big_from 25 4 b % 1048576)
date_read_is b h = ap date_of (omega (arith, fields.date-is b h))

pub event_date_read_is : (b : List ℕ) → IsBytes b → event_date_in b ≡ event_at (date_of (big_from 25 4 b % 1048576)) (big_from 25 4 b)
unfolding event_at
event_date_read_is b h =
    let date = date_read_is b h in
    let small = big_from-lt 25 4 b h in
    let code : field b places.event_code ≡ big_from 25 4 b / 536870912 = omega (arith, fields.event_code-is b h, small) in
    let month : field b places.event_month ≡ big_from 25 4 b / 33554432 % 16 = omega (arith, fields.event_month-is b h) in
    let day : field b places.event_day ≡ big_from 25 4 b / 1048576 % 32 = omega (arith, fields.event_day-is b h) in
    λ i. event_date_of (date i).year (code i) (month i) (day i)

pub offset_read_is : (b : List ℕ) → IsBytes b → field b spots.offset ≡ big_from 0 4 b
offset_read_is b h = omega (arith, fields.offset-is b h, big_from-lt 0 4 b h)

pub nags_read_is : (b : List ℕ) → IsBytes b → field b spots.nags ≡ get_or b 21 0 % 16
nags_read_is b h = omega (arith, fields.nags-is b h)

pub comments_read_is : (b : List ℕ) → IsBytes b → field b spots.comments ≡ get_or b 22 0 / 16
comments_read_is b h = omega (arith, fields.comments-is b h, h 21, h 22)

pub vars_read_is : (b : List ℕ) → IsBytes b → field b spots.vars ≡ get_or b 22 0 % 16
vars_read_is b h = omega (arith, fields.vars-is b h, h 22)

pub outcome_read_is : (b : List ℕ) → IsBytes b → field b places.outcome ≡ get_or b 21 0 / 16
outcome_read_is b h = omega (arith, fields.outcome-is b h, h 21)

-- Any other code is that of an unknown result.
pub outcome_other : (n : ℕ) → (n ≡ 1 → ⊥) → (n ≡ 2 → ⊥) → (n ≡ 3 → ⊥) → Unknown ≡ outcome_of n
outcome_other zero one two three = refl
outcome_other (suc zero) one two three = absurd (one refl)
outcome_other (suc (suc zero)) one two three = absurd (two refl)
outcome_other (suc (suc (suc zero))) one two three = absurd (three refl)
outcome_other (suc (suc (suc (suc n)))) one two three = refl

pub eco_read_is : (b : List ℕ) → IsBytes b → field b places.eco ≡ big_from 23 2 b
eco_read_is b h = omega (arith, fields.eco-is b h, h 23, h 24)

pub white_kind_read_is : (b : List ℕ) → IsBytes b → field b places.white_kind ≡ big_from 29 2 b / 4096
white_kind_read_is b h = omega (arith, fields.white_kind-is b h, big_from-lt 29 2 b h)

pub white_value_read_is : (b : List ℕ) → IsBytes b → field b places.white_value ≡ big_from 29 2 b % 4096
white_value_read_is b h = omega (arith, fields.white_value-is b h)

pub black_kind_read_is : (b : List ℕ) → IsBytes b → field b places.black_kind ≡ big_from 31 2 b / 4096
black_kind_read_is b h = omega (arith, fields.black_kind-is b h, big_from-lt 31 2 b h)

pub black_value_read_is : (b : List ℕ) → IsBytes b → field b places.black_value ≡ big_from 31 2 b % 4096
black_value_read_is b h = omega (arith, fields.black_value-is b h)

pub home_count_read_is : (b : List ℕ) → IsBytes b → field b places.home_count ≡ get_or b 38 0 % 64
home_count_read_is b h = omega (arith, fields.home_count-is b h)

pub own_start_read_is : (b : List ℕ) → IsBytes b → field b spots.own_start ≡ big_from 7 2 b % 2
own_start_read_is b h = omega (arith, fields.own_start-is b h)

pub promo_read_is : (b : List ℕ) → IsBytes b → field b spots.promo ≡ big_from 7 2 b / 2 % 2
promo_read_is b h = omega (arith, fields.promo-is b h)

pub under_read_is : (b : List ℕ) → IsBytes b → field b spots.under ≡ big_from 7 2 b / 4 % 2
under_read_is b h = omega (arith, fields.under-is b h)

pub deleted_read_is : (b : List ℕ) → IsBytes b → field b spots.deleted ≡ big_from 7 2 b / 8 % 2
deleted_read_is b h = omega (arith, fields.deleted-is b h)

pub len_read_is : (b : List ℕ) → IsBytes b → field b spots.len ≡ get_or b 6 0 / 128 * 65536 + big_from 4 2 b
len_read_is b h = omega (arith, fields.len-is b h, h 6, big_from-lt 4 2 b h)

pub marks_read_is : (b : List ℕ) → IsBytes b → field b spots.marks ≡ get_or b 6 0 % 64 * 4096 + big_from 7 2 b / 16
marks_read_is b h = omega (arith, fields.marks-is b h, big_from-lt 7 2 b h)

pub white_read_is : (b : List ℕ) → IsBytes b → field b spots.white ≡ get_or b 9 0 / 16 * 65536 + big_from 10 2 b
white_read_is b h = omega (arith, fields.white-is b h, h 9, big_from-lt 10 2 b h)

pub black_read_is : (b : List ℕ) → IsBytes b → field b spots.black ≡ get_or b 9 0 % 16 * 65536 + big_from 12 2 b
black_read_is b h = omega (arith, fields.black-is b h, big_from-lt 12 2 b h)

pub event_read_is : (b : List ℕ) → IsBytes b → field b spots.event ≡ get_or b 14 0 / 32 * 65536 + big_from 15 2 b
event_read_is b h = omega (arith, fields.event-is b h, h 14, big_from-lt 15 2 b h)

pub site_read_is : (b : List ℕ) → IsBytes b → field b spots.site ≡ get_or b 14 0 / 4 % 8 * 65536 + big_from 17 2 b
site_read_is b h = omega (arith, fields.site-is b h, big_from-lt 17 2 b h)

pub round_read_is : (b : List ℕ) → IsBytes b → field b spots.round ≡ get_or b 14 0 % 4 * 65536 + big_from 19 2 b
round_read_is b h = omega (arith, fields.round-is b h, big_from-lt 19 2 b h)

pub plies_read_is : (b : List ℕ) → IsBytes b → field b spots.plies ≡ get_or b 38 0 / 64 * 256 + get_or b 37 0
plies_read_is b h = omega (arith, fields.plies-is b h, h 38, h 37)

pub home_read_is : (b : List ℕ) → IsBytes b → (i : ℕ) → home_in b i ≡ home_at b i
unfolding home_at
home_read_is b h i = λ j. cond (ltb i (home_count_read_is b h j)) (fields.home_value-is b i h j) 0

pub home_values_read_is : (b : List ℕ) → IsBytes b → map (home_in b) (range_with_len 0 16) ≡ map (home_at b) (range_with_len 0 16)
home_values_read_is b h = let home = home_read_is b h in λ i. map (λ j. home j i) (range_with_len 0 16)

pub home_word_read_is : (b : List ℕ) → IsBytes b → (i : ℕ) → i < 16 → i < field b places.home_count
    → big_from 39 8 b / 2 ^ (60 - 4 * i) % 16 ≡ get_or (map (home_in b) (range_with_len 0 16)) i 0
home_word_read_is b h i less under =
    let read : home_in b i ≡ field b (places.home_value i) =
    ap (λ (t : Bool). cond t (field b (places.home_value i)) 0) (lt-ltb i (field b places.home_count) under) in
    sym (get_or-map-range_with_len (home_in b) 0 16 i i 0 less (omega arith) ∙ read ∙ fields.home_value-in_word b i h less)

pub material_read_is : (b : List ℕ) → IsBytes b → map (field b) spots.material ≡ material_at (get_or b 34 0) (get_or b 35 0) (get_or b 36 0)
unfolding material_at
material_read_is b h =
    let m0 : field b (range_with_len 272 2) ≡ get_or b 34 0 / 64 = omega (arith, field-run b 34 1 272 2 6 h (omega arith) refl, h 34) in
    let m1 : field b (range_with_len 274 2) ≡ get_or b 34 0 / 16 % 4 = omega (arith, field-run b 34 1 274 2 4 h (omega arith) refl, h 34) in
    let m2 : field b (range_with_len 276 2) ≡ get_or b 34 0 / 4 % 4 = omega (arith, field-run b 34 1 276 2 2 h (omega arith) refl, h 34) in
    let m3 : field b (range_with_len 278 2) ≡ get_or b 34 0 % 4 = omega (arith, field-run b 34 1 278 2 0 h (omega arith) refl, h 34) in
    let m4 : field b (range_with_len 280 4) ≡ get_or b 35 0 / 16 = omega (arith, field-run b 35 1 280 4 4 h (omega arith) refl, h 35) in
    let m5 : field b (range_with_len 284 2) ≡ get_or b 35 0 / 4 % 4 = omega (arith, field-run b 35 1 284 2 2 h (omega arith) refl, h 35) in
    let m6 : field b (range_with_len 286 2) ≡ get_or b 35 0 % 4 = omega (arith, field-run b 35 1 286 2 0 h (omega arith) refl, h 35) in
    let m7 : field b (range_with_len 288 2) ≡ get_or b 36 0 / 64 = omega (arith, field-run b 36 1 288 2 6 h (omega arith) refl, h 36) in
    let m8 : field b (range_with_len 290 2) ≡ get_or b 36 0 / 16 % 4 = omega (arith, field-run b 36 1 290 2 4 h (omega arith) refl, h 36) in
    let m9 : field b (range_with_len 292 4) ≡ get_or b 36 0 % 16 = omega (arith, field-run b 36 1 292 4 0 h (omega arith) refl, h 36) in
    λ i. m0 i ∷ m1 i ∷ m2 i ∷ m3 i ∷ m4 i ∷ m5 i ∷ m6 i ∷ m7 i ∷ m8 i ∷ m9 i ∷ []

flag_is : (m n : ℕ) → m ≡ n → eqb m 1 ≡ eqb n 1
flag_is m n e = ap (λ k. eqb k 1) e

pub fields_read_is : (b : List ℕ) → IsBytes b → entry_in b ≡ fields_at b (outcome_of (get_or b 21 0 / 16)) (big_from 23 2 b)
    (date_of (big_from 25 4 b % 1048576), event_at (date_of (big_from 25 4 b % 1048576)) (big_from 25 4 b))
    (rating_of (big_from 29 2 b / 4096) (big_from 29 2 b % 4096)) (rating_of (big_from 31 2 b / 4096) (big_from 31 2 b % 4096))
unfolding entry_in fields_at
fields_read_is b h =
    let home = home_read_is b h in
    λ i. record {
      offset = offset_read_is b h i;
      len = len_read_is b h i;
      own_start = eqb (own_start_read_is b h i) 1;
      promo = eqb (promo_read_is b h i) 1;
      under = eqb (under_read_is b h i) 1;
      deleted = eqb (deleted_read_is b h i) 1;
      marks = marks_read_is b h i;
      white = white_read_is b h i;
      black = black_read_is b h i;
      event = event_read_is b h i;
      site = site_read_is b h i;
      round = round_read_is b h i;
      vars = vars_read_is b h i;
      comments = comments_read_is b h i;
      nags = nags_read_is b h i;
      result = outcome_of (outcome_read_is b h i);
      eco = eco_read_is b h i;
      date = date_read_is b h i;
      event_date = event_date_read_is b h i;
      white_rating = rating_of (white_kind_read_is b h i) (white_value_read_is b h i);
      black_rating = rating_of (black_kind_read_is b h i) (black_value_read_is b h i);
      material = material_read_is b h i;
      plies = plies_read_is b h i;
      home_count = home_count_read_is b h i;
      home = map (λ j. home j i) (range_with_len 0 16);
    }

steps : {O E D W K : Type 0} (t1 t2 t3 t4 t5 : Bool) (o : O) (e : E) (d : D) (w : W) (k : K) (f : O → E → D → W → K → Entry)
    → option_map_or Err (cond t1 (Some faults.Result) (cond t2 (Some faults.Eco) (cond t3 (Some faults.Date) (cond (t4 || t5) (Some faults.Rating) None)))) (Ok (f o e d w k))
    ≡ (cond t1 (Err faults.Result) (Ok o) >>= λ o. cond t2 (Err faults.Eco) (Ok e) >>= λ e. cond t3 (Err faults.Date) (Ok d)
    >>= λ d. cond t4 (Err faults.Rating) (Ok w) >>= λ w. cond t5 (Err faults.Rating) (Ok k) >>= λ k. Ok (f o e d w k))
steps true t2 t3 t4 t5 o e d w k f = refl
steps false true t3 t4 t5 o e d w k f = refl
steps false false true t4 t5 o e d w k f = refl
steps false false false true t5 o e d w k f = refl
steps false false false false true o e d w k f = refl
steps false false false false false o e d w k f = refl

pub read_is : (b : List ℕ) → IsBytes b → entry_read b ≡ entry_at b
unfolding entry_read entry_at fault_in outcome_at eco_at dates_at rating_at
read_is b h =
    let sought : entry_read b ≡ option_map_or Err (
    cond (ltb 3 (get_or b 21 0 / 16)) (Some faults.Result)
    (cond (ltb 65500 (big_from 23 2 b)) (Some faults.Eco)
    (cond (ltb 12 (date_of (big_from 25 4 b % 1048576)).month || ltb 12 (event_at (date_of (big_from 25 4 b % 1048576)) (big_from 25 4 b)).month) (Some faults.Date)
    (cond (is_bad_rating (big_from 29 2 b / 4096) (big_from 29 2 b % 4096) || is_bad_rating (big_from 31 2 b / 4096) (big_from 31 2 b % 4096)) (Some faults.Rating) None))))
    (Ok (fields_at b (outcome_of (get_or b 21 0 / 16)) (big_from 23 2 b)
    (date_of (big_from 25 4 b % 1048576), event_at (date_of (big_from 25 4 b % 1048576)) (big_from 25 4 b))
    (rating_of (big_from 29 2 b / 4096) (big_from 29 2 b % 4096)) (rating_of (big_from 31 2 b / 4096) (big_from 31 2 b % 4096)))) =
    λ i. option_map_or Err (
    cond (ltb 3 (outcome_read_is b h i)) (Some faults.Result)
    (cond (ltb 65500 (eco_read_is b h i)) (Some faults.Eco)
    (cond (ltb 12 (date_read_is b h i).month || ltb 12 (event_date_read_is b h i).month) (Some faults.Date)
    (cond (is_bad_rating (white_kind_read_is b h i) (white_value_read_is b h i) || is_bad_rating (black_kind_read_is b h i) (black_value_read_is b h i)) (Some faults.Rating) None))))
    (Ok (fields_read_is b h i)) in
    sought ∙ steps (ltb 3 (get_or b 21 0 / 16)) (ltb 65500 (big_from 23 2 b))
    (ltb 12 (date_of (big_from 25 4 b % 1048576)).month || ltb 12 (event_at (date_of (big_from 25 4 b % 1048576)) (big_from 25 4 b)).month)
    (is_bad_rating (big_from 29 2 b / 4096) (big_from 29 2 b % 4096)) (is_bad_rating (big_from 31 2 b / 4096) (big_from 31 2 b % 4096))
    (outcome_of (get_or b 21 0 / 16)) (big_from 23 2 b)
    (date_of (big_from 25 4 b % 1048576), event_at (date_of (big_from 25 4 b % 1048576)) (big_from 25 4 b))
    (rating_of (big_from 29 2 b / 4096) (big_from 29 2 b % 4096)) (rating_of (big_from 31 2 b / 4096) (big_from 31 2 b % 4096)) (fields_at b)
