-- What is read can be written.
use Rattle.std.proofs.Common.{◌≡◌, ◌≤◌, ◌<◌, ◌+◌, ◌-◌, ◌*◌, ◌^◌, ◌/◌, ◌%◌, ℕ, zero, suc, Bool, true, false, cond, ltb, ◌&&◌, ◌||◌, List, [], ◌∷◌, length, map, get_or, Option, Some, None, Result, Ok, Err, refl, sym, ap, subst, ◌∙◌, arith, inl, inr, eq-eqb}
use Rattle.std.specs.Prelude.{IsTrue, IfOk}
use Rattle.std.specs.List.{range_with_len}
use Rattle.std.proofs.lemmas.Bool.{ltb-true, ltb-false, le-ltb, le-leb, cases_eq, cases_lt, cases_Bool, and_parts, or_parts, ne_eqb, cond-true, cond-false, and_cases}
use Rattle.std.proofs.lemmas.List.{get_or_past}
use Rattle.std.proofs.lemmas.List.FromFn.{get_or-map-range_with_len}
use Rattle.std.proofs.lemmas.Nat.{pow-add}
use Rattle.std.proofs.lemmas.Nat.Bits.{bit_at-lt}
use Rattle.std.specs.Option.{option_map_or}
use Rattle.game_tree.specs.Date.{IsDate, unknown_date, is_unknown, is_near, keeps_rule}
use Rattle.game_tree.specs.Head.{IsRating}
use Rattle.game_tree.specs.declared.date.Date.{Date}
use Rattle.index_entry.specs.declared.entry.Entry.{Entry}
use Rattle.index_entry.specs.declared.fault.EntryFault.{EntryFault}
use Rattle.index_entry.specs.declared.fault.EntryFault.TheVariants as faults
use Rattle.index_entry.specs.Bits.{bit_in, field, bits}
use Rattle.index_entry.specs.Places as places
use Rattle.index_entry.proofs.FieldPlaces as spots
use Rattle.index_entry.specs.Entry.{date_in, event_date_in, has_event_date, event_date_of, rating_of, is_bad_rating, home_in, entry_in, fault_in, entry_read, AreHomeValues, AreCounts, IsEntry}

power_step : (bit rest half whole : ℕ) → bit < 2 → rest < half → whole ≡ 2 ^ 1 * half → bit * half + rest < whole
power_step zero rest half whole small lt e = omega arith
power_step (suc zero) rest half whole small lt e = omega arith
power_step (suc (suc bit)) rest half whole small lt e = absurd (omega arith)

-- A field has no more bits than places.
pub field-lt : (b ps : List ℕ) → field b ps < 2 ^ length ps
unfolding field
field-lt b [] = omega arith
field-lt b (p ∷ ps) =
    let bit : bit_in b p < 2 = bit_at-lt (get_or b (p / 8) 0) (7 - p % 8) in
    power_step (bit_in b p) (field b ps) (2 ^ length ps) (2 ^ suc (length ps)) bit (field-lt b ps) (ap (λ n. 2 ^ n) (omega arith) ∙ pow-add 2 1 (length ps))

-- The tests of a read that found no fault.
pub record Passed (b : List ℕ) : Type 0 where
  pub outcome : field b places.outcome ≤ 3
  pub eco : field b places.eco ≤ 65500
  pub month : (date_in b).month ≤ 12
  pub event_month : (event_date_in b).month ≤ 12
  pub white : is_bad_rating (field b places.white_kind) (field b places.white_value) ≡ false
  pub black : is_bad_rating (field b places.black_kind) (field b places.black_value) ≡ false

guard : (t : Bool) (f : EntryFault) (rest : Option EntryFault) (entry e : Entry) → option_map_or Err (cond t (Some f) rest) (Ok entry) ≡ Ok e
    → (t ≡ false) × (option_map_or Err rest (Ok entry) ≡ Ok e)
guard true f rest entry e is = absurd cc
guard false f rest entry e is = (refl, is)

pub passed : (b : List ℕ) (e : Entry) → entry_read b ≡ Ok e → Passed b × (entry_in b ≡ e)
unfolding entry_read fault_in
passed b e is =
    let bad = is_bad_rating (field b places.white_kind) (field b places.white_value) || is_bad_rating (field b places.black_kind) (field b places.black_value) in
    let late = ltb 12 (date_in b).month || ltb 12 (event_date_in b).month in
    let rating : Option EntryFault = cond bad (Some faults.Rating) None in
    let date : Option EntryFault = cond late (Some faults.Date) rating in
    let eco : Option EntryFault = cond (ltb 65500 (field b places.eco)) (Some faults.Eco) date in
    let g1 = guard (ltb 3 (field b places.outcome)) faults.Result eco (entry_in b) e is in
    let g2 = guard (ltb 65500 (field b places.eco)) faults.Eco date (entry_in b) e g1.1 in
    let g3 = guard late faults.Date rating (entry_in b) e g2.1 in
    let g4 = guard bad faults.Rating None (entry_in b) e g3.1 in
    let months = or_parts (ltb 12 (date_in b).month) (ltb 12 (event_date_in b).month) g3.0 in
    let kinds = or_parts (is_bad_rating (field b places.white_kind) (field b places.white_value)) (is_bad_rating (field b places.black_kind) (field b places.black_value)) g4.0 in (
      record {
        outcome = ltb-false _ _ g1.0;
        eco = ltb-false _ _ g2.0;
        month = ltb-false _ _ months.0;
        event_month = ltb-false _ _ months.1;
        white = kinds.0;
        black = kinds.1;
      },
      cc,
    )

-- The bounds of each part.
date_sound : (b : List ℕ) → (date_in b).month ≤ 12 → IsDate (date_in b)
date_sound b month =
    let fits : field b spots.date < 1048576 = field-lt b spots.date in
    record { year = omega arith; month = month; day = omega arith }

unknown_sound : IsDate unknown_date
unknown_sound = record { year = omega arith; month = omega arith; day = omega arith }

-- What the test of an event date says.
pub record Has (year code : ℕ) : Type 0 where
  pub code_some : 0 < code
  pub year_some : 0 < year
  pub low : 4 < year + code
  pub high : year + code < 2052

pub has_is : (year code : ℕ) → has_event_date year code ≡ true → Has year code
has_is year code e =
    let a = and_parts (ltb 0 code && ltb 0 year && ltb 4 (year + code)) (ltb (year + code) 2052) e in
    let b = and_parts (ltb 0 code && ltb 0 year) (ltb 4 (year + code)) a.0 in
    let c = and_parts (ltb 0 code) (ltb 0 year) b.0 in
    record { code_some = ltb-true _ _ c.0; year_some = ltb-true _ _ c.1; low = ltb-true _ _ b.1; high = ltb-true _ _ a.1 }

near_sound : (event game : Date) (code : ℕ) → Has game.year code → code < 8 → event.year ≡ (game.year + code) - 4 → is_near event game ≡ true
near_sound event game code has small e =
    rw (
      le-leb 1 event.year (omega (arith, has)),
      le-leb event.year 2047 (omega (arith, has)),
      le-leb 1 game.year (omega (arith, has)),
      le-leb event.year (game.year + 3) (omega (arith, has)),
      le-leb game.year (event.year + 3) (omega (arith, has)),
    )
    refl

rule_of_near : (unknown near : Bool) → near ≡ true → IsTrue (unknown || near)
rule_of_near true near e = refl
rule_of_near false near e = e

event_sound : (game : Date) (code month day : ℕ) → code < 8 → day < 32 → (event_date_of game.year code month day).month ≤ 12
    → IsDate (event_date_of game.year code month day) × IsTrue (keeps_rule (event_date_of game.year code month day) game)
event_sound game code month day small fits within = elim (cases_Bool (has_event_date game.year code)) [
  | inl e ↦
      let has = has_is game.year code e in
      let is : event_date_of game.year code month day ≡ record { year = (game.year + code) - 4; month = month; day = day } =
      cond-true (has_event_date game.year code) (record { year = (game.year + code) - 4; month = month; day = day }) unknown_date e in
      subst (λ (d : Date). d.month ≤ 12 → IsDate d × IsTrue (keeps_rule d game)) (sym is)
      (λ le. (
        record { year = omega (arith, has); month = le; day = omega arith },
        rule_of_near (is_unknown (record { year = (game.year + code) - 4; month = month; day = day })) _
            (near_sound (record { year = (game.year + code) - 4; month = month; day = day }) game code has small refl),
      ))
      within
  | inr e ↦
      let is : event_date_of game.year code month day ≡ unknown_date =
      cond-false (has_event_date game.year code) (record { year = (game.year + code) - 4; month = month; day = day }) unknown_date e in
      subst (λ (d : Date). IsDate d × IsTrue (keeps_rule d game)) (sym is) (unknown_sound, refl)
]

rating_sound : (kind value : ℕ) → kind < 16 → value < 4096 → is_bad_rating kind value ≡ false → IsRating (rating_of kind value)
rating_sound kind value kind_fits value_fits fine = elim (cases_eq value 0) [
  | inl none ↦ rw (eq-eqb value 0 none) (record { value = omega arith; kind = omega arith; none = λ _. refl })
  | inr some ↦ rw (ne_eqb value 0 some) (record {
    value = omega arith;
    kind = elim (and_cases (ltb 6 kind) (ltb 0 value) fine) [ inl k ↦ ltb-false _ _ k | inr v ↦ absurd (some (omega (arith, ltb-false 0 value v))) ];
    none = λ e. absurd (some e);
  })
]

counts_small : (b : List ℕ) (i : ℕ) → get_or (map (field b) spots.material) i 0 ≤ get_or (3 ∷ 3 ∷ 3 ∷ 3 ∷ 15 ∷ 3 ∷ 3 ∷ 3 ∷ 3 ∷ 15 ∷ []) i 0
counts_small b zero = omega (arith, field-lt b (bits 34 0 2))
counts_small b (suc zero) = omega (arith, field-lt b (bits 34 2 2))
counts_small b (suc (suc zero)) = omega (arith, field-lt b (bits 34 4 2))
counts_small b (suc (suc (suc zero))) = omega (arith, field-lt b (bits 34 6 2))
counts_small b (suc (suc (suc (suc zero)))) = omega (arith, field-lt b (bits 34 8 4))
counts_small b (suc (suc (suc (suc (suc zero))))) = omega (arith, field-lt b (bits 34 12 2))
counts_small b (suc (suc (suc (suc (suc (suc zero)))))) = omega (arith, field-lt b (bits 34 14 2))
counts_small b (suc (suc (suc (suc (suc (suc (suc zero))))))) = omega (arith, field-lt b (bits 34 16 2))
counts_small b (suc (suc (suc (suc (suc (suc (suc (suc zero)))))))) = omega (arith, field-lt b (bits 34 18 2))
counts_small b (suc (suc (suc (suc (suc (suc (suc (suc (suc zero))))))))) = omega (arith, field-lt b (bits 34 20 4))
counts_small b (suc (suc (suc (suc (suc (suc (suc (suc (suc (suc i)))))))))) = omega arith

material_sound : (b : List ℕ) → AreCounts (map (field b) spots.material)
material_sound b = record { size = refl; small = counts_small b }

home_small : (b : List ℕ) (i : ℕ) → home_in b i < 16
unfolding places.home_value
home_small b i = elim (cases_Bool (ltb i (field b places.home_count))) [
  | inl e ↦ rw e (field-lt b (places.home_value i))
  | inr e ↦ rw e (omega arith)
]

home_sound : (b : List ℕ) → AreHomeValues (field b places.home_count) (map (home_in b) (range_with_len 0 16))
home_sound b = record {
  size = refl;
  small = λ i. elim (cases_lt i 16) [
    | inl lt ↦ rw (get_or-map-range_with_len (home_in b) 0 16 i i 0 lt (omega arith)) (home_small b i)
    | inr ge ↦ rw (get_or_past (map (home_in b) (range_with_len 0 16)) i 0 ge) (omega arith)
  ];
  past = λ i le. elim (cases_lt i 16) [
    | inl lt ↦ get_or-map-range_with_len (home_in b) 0 16 i i 0 lt (omega arith) ∙ cond-false (ltb i (field b places.home_count)) (field b (places.home_value i)) 0 (le-ltb i (field b places.home_count) le)
    | inr ge ↦ get_or_past (map (home_in b) (range_with_len 0 16)) i 0 ge
  ];
}

entry_sound : (b : List ℕ) → Passed b → IsEntry (entry_in b)
unfolding entry_in places.home_count places.event_code places.event_day places.white_kind places.white_value places.black_kind places.black_value
entry_sound b p =
    let event = event_sound (date_in b) (field b places.event_code) (field b places.event_month) (field b places.event_day)
    (field-lt b places.event_code) (field-lt b places.event_day) p.event_month in
    record {
      len = field-lt b spots.len;
      marks = field-lt b spots.marks;
      white = field-lt b spots.white;
      black = field-lt b spots.black;
      event = field-lt b spots.event;
      site = field-lt b spots.site;
      round = field-lt b spots.round;
      vars = field-lt b spots.vars;
      comments = field-lt b spots.comments;
      nags = field-lt b spots.nags;
      plies = field-lt b spots.plies;
      eco = p.eco;
      date = date_sound b p.month;
      event_date = event.0;
      event_rule = event.1;
      white_rating = rating_sound (field b places.white_kind) (field b places.white_value) (field-lt b places.white_kind) (field-lt b places.white_value) p.white;
      black_rating = rating_sound (field b places.black_kind) (field b places.black_value) (field-lt b places.black_kind) (field-lt b places.black_value) p.black;
      material = material_sound b;
      home_count = field-lt b places.home_count;
      home = home_sound b;
    }

pub read_is_sound : (b : List ℕ) (e : Entry) → entry_read b ≡ Ok e → IsEntry e
read_is_sound b e is = let p = passed b e is in subst IsEntry p.1 (entry_sound b p.0)

pub read_is_sound_at : (b : List ℕ) (r : Result Entry EntryFault) → r ≡ entry_read b → IfOk r IsEntry
read_is_sound_at b (Ok e) is = read_is_sound b e (sym is)
read_is_sound_at b (Err f) is = tt
