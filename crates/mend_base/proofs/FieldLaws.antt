-- What an entry says without what stands for nothing in it.
use Rattle.std.proofs.Common.{◌≡◌, ◌≤◌, ◌<◌, ◌+◌, ◌-◌, ◌*◌, ◌^◌, ◌/◌, ◌%◌, ℕ, zero, suc, Bool, true, false, ◌&&◌, ◌||◌, nat_lt, nat_eq, if◌then◌else◌, IsTrue, List, [], ◌∷◌, length, map, get_or, Option, None, Some, Result, Ok, Err, refl, sym, ap, ◌∙◌, subst, arith, inl, inr, eq-eqb}
use Rattle.std.specs.List.{range_with_len}
use Rattle.std.specs.Option.{option_map_or}
use Rattle.std.proofs.lemmas.Bool.{ltb-true, ltb-false, le-ltb, le-leb, cases_eq, cases_lt, cases_Bool, ne_eqb, cond-true, cond-false}
use Rattle.std.proofs.lemmas.List.{get_or_past}
use Rattle.std.proofs.lemmas.List.FromFn.{get_or-map-range_with_len}
use Rattle.game_tree.specs.Date.{IsDate, is_near, is_unknown, keeps_rule, unknown_date}
use Rattle.game_tree.specs.Head.{IsRating}
use Rattle.game_tree.specs.declared.date.Date.{Date}
use Rattle.game_tree.specs.declared.head.Rating.{Rating}
use Rattle.index_entry.specs.Bits.{bits, field}
use Rattle.index_entry.specs.Entry.{AreCounts, AreHomeValues, IsEntry, date_in, entry_in, entry_read, event_date_in, event_date_of, fault_in, has_event_date, home_in, rating_of}
use Rattle.index_entry.specs.Places as places
use Rattle.index_entry.specs.declared.entry.Entry.{Entry}
use Rattle.index_entry.specs.declared.fault.EntryFault.{EntryFault}
use Rattle.index_entry.proofs.BitLemmas.{IsBytes, field-run}
use Rattle.index_entry.proofs.FieldPlaces as spots
use Rattle.index_entry.proofs.SoundLemmas.{Has, field-lt, has_is, read_is_sound}
use Rattle.base_core.proofs.CheckLaws.{read_is}
use Rattle.base_core.proofs.Results.{ok_err, same_err}
use Rattle.mend_base.specs.Fields.{date_known, eco_known, event_date_known, known_in, rating_known, without_faults}

-- ---- an entry without a fault.

same_rating : (r : Rating) → IsRating r → rating_known r ≡ r
same_rating r is = rw (le-ltb 6 r.kind is.kind) refl

same_event : (game event : Date) → IsDate game → IsDate event → event_date_known game event ≡ event
same_event game event is of = rw (le-ltb 12 game.month is.month, le-ltb 12 event.month of.month) refl

same_date : (d : Date) → IsDate d → date_known d ≡ d
same_date d is = rw (le-ltb 12 d.month is.month) refl

same_eco : (eco : ℕ) → eco ≤ 65500 → eco_known eco ≡ eco
same_eco eco few = rw (le-ltb 65500 eco few) refl

same_fields : (e : Entry) → IsEntry e → without_faults e ≡ e
unfolding without_faults
same_fields e is =
    let eco = same_eco e.eco is.eco in
    let date = same_date e.date is.date in
    let event_date = same_event e.date e.event_date is.date is.event_date in
    let white = same_rating e.white_rating is.white_rating in
    let black = same_rating e.black_rating is.black_rating in
    λ i. record e { eco = eco i; date = date i; event_date = event_date i; white_rating = white i; black_rating = black i }

-- It says what is read.
pub known-read : (bytes : List ℕ) (e : Entry) → entry_read bytes ≡ Ok e → known_in bytes ≡ e
unfolding known_in
known-read bytes e is = ap without_faults (read_is bytes e is) ∙ same_fields e (read_is_sound bytes e is)

none_by : (found : Option EntryFault) (x e : Entry) → option_map_or Err found (Ok x) ≡ Ok e → found ≡ None
none_by None x e is = refl
none_by (Some fault) x e is = absurd (ok_err _ e fault is refl)

some_by : (found : Option EntryFault) (x : Entry) (fault : EntryFault) → option_map_or Err found (Ok x) ≡ Err fault → found ≡ Some fault
some_by None x fault is = absurd (ok_err _ x fault refl is)
some_by (Some other) x fault is = ap Some (same_err _ other fault refl is)

pub no-fault : (bytes : List ℕ) (e : Entry) → entry_read bytes ≡ Ok e → fault_in bytes ≡ None
unfolding entry_read
no-fault bytes e is = none_by (fault_in bytes) (entry_in bytes) e is

pub the-fault : (bytes : List ℕ) (fault : EntryFault) → entry_read bytes ≡ Err fault → fault_in bytes ≡ Some fault
unfolding entry_read
the-fault bytes fault is = some_by (fault_in bytes) (entry_in bytes) fault is

-- ---- whatever an entry says, without what stands for nothing it can be written.

unknown_sound : IsDate unknown_date
unknown_sound = record { year = omega arith; month = omega arith; day = omega arith }

date_by : (late : Bool) (d : Date) → d.year ≤ 2047 → d.day ≤ 31 → (late ≡ false → d.month ≤ 12) → IsDate (if late then unknown_date else d)
date_by true d year day month = unknown_sound
date_by false d year day month = record { year = year; month = month refl; day = day }

date_sound : (b : List ℕ) → IsDate (date_known (date_in b))
date_sound b =
    let fits : field b spots.date < 1048576 = field-lt b spots.date in
    date_by (nat_lt 12 (date_in b).month) (date_in b) (omega arith) (omega arith) (λ is. ltb-false 12 (date_in b).month is)

near_sound : (event game : Date) (code : ℕ) → Has game.year code → code < 8 → event.year ≡ (game.year + code) - 4 → is_near event game ≡ true
near_sound event game code has small e =
    rw (
      le-leb 1 event.year (omega (arith, has)),
      le-leb event.year 2047 (omega (arith, has)),
      le-leb 1 game.year (omega (arith, has)),
      le-leb event.year (game.year + 3) (omega (arith, has)),
      le-leb game.year (event.year + 3) (omega (arith, has)),
    )
    refl

rule_of_near : (unknown near : Bool) → near ≡ true → IsTrue (unknown || near)
rule_of_near true near e = refl
rule_of_near false near e = e

event_sound : (game : Date) (code month day : ℕ) → code < 8 → day < 32 → (event_date_of game.year code month day).month ≤ 12
    → IsDate (event_date_of game.year code month day) × IsTrue (keeps_rule (event_date_of game.year code month day) game)
event_sound game code month day small fits within = elim (cases_Bool (has_event_date game.year code)) [
  | inl e ↦
      let has = has_is game.year code e in
      let is : event_date_of game.year code month day ≡ record { year = (game.year + code) - 4; month = month; day = day } =
      cond-true (has_event_date game.year code) (record { year = (game.year + code) - 4; month = month; day = day }) unknown_date e in
      subst (λ (d : Date). d.month ≤ 12 → IsDate d × IsTrue (keeps_rule d game)) (sym is)
      (λ le. (
        record { year = omega (arith, has); month = le; day = omega arith },
        rule_of_near (is_unknown (record { year = (game.year + code) - 4; month = month; day = day })) _
            (near_sound (record { year = (game.year + code) - 4; month = month; day = day }) game code has small refl),
      ))
      within
  | inr e ↦
      let is : event_date_of game.year code month day ≡ unknown_date =
      cond-false (has_event_date game.year code) (record { year = (game.year + code) - 4; month = month; day = day }) unknown_date e in
      subst (λ (d : Date). IsDate d × IsTrue (keeps_rule d game)) (sym is) (unknown_sound, refl)
]

event_by : (late after : Bool) (game event : Date) → (late ≡ false → after ≡ false → IsDate event × IsTrue (keeps_rule event game)) →
    IsDate (if late || after then unknown_date else event) × IsTrue (keeps_rule (if late || after then unknown_date else event) (if late then unknown_date else game))
event_by true after game event f = (unknown_sound, refl)
event_by false true game event f = (unknown_sound, refl)
event_by false false game event f = f refl refl

event_known : (b : List ℕ) → IsDate (event_date_known (date_in b) (event_date_in b)) × IsTrue (keeps_rule (event_date_known (date_in b) (event_date_in b)) (date_known (date_in b)))
unfolding places.event_code places.event_day
event_known b =
    event_by (nat_lt 12 (date_in b).month) (nat_lt 12 (event_date_in b).month) (date_in b) (event_date_in b)
    (λ late after. event_sound (date_in b) (field b places.event_code) (field b places.event_month) (field b places.event_day) (field-lt b places.event_code) (field-lt b places.event_day)
    (ltb-false 12 (event_date_in b).month after))

rating_by : (bad : Bool) (r : Rating) → r.value ≤ 4095 → (r.value ≡ 0 → r.kind ≡ 0) → (bad ≡ false → r.kind ≤ 6) → IsRating (if bad then record { value = 0; kind = 0 } else r)
rating_by true r few none kind = record { value = omega arith; kind = omega arith; none = λ is. refl }
rating_by false r few none kind = record { value = few; kind = kind refl; none = none }

rating_sound : (kind value : ℕ) → value < 4096 → IsRating (rating_known (rating_of kind value))
rating_sound kind value fits =
    rating_by (nat_lt 6 (rating_of kind value).kind) (rating_of kind value) (omega arith) (λ is. cond-true (nat_eq value 0) 0 kind (eq-eqb value 0 is)) (λ is. ltb-false 6 (rating_of kind value).kind is)

eco_by : (bad : Bool) (eco : ℕ) → (bad ≡ false → eco ≤ 65500) → (if bad then 0 else eco) ≤ 65500
eco_by true eco few = omega arith
eco_by false eco few = few refl

counts_small : (b : List ℕ) (i : ℕ) → get_or (map (field b) spots.material) i 0 ≤ get_or (3 ∷ 3 ∷ 3 ∷ 3 ∷ 15 ∷ 3 ∷ 3 ∷ 3 ∷ 3 ∷ 15 ∷ []) i 0
counts_small b zero = omega (arith, field-lt b (bits 34 0 2))
counts_small b (suc zero) = omega (arith, field-lt b (bits 34 2 2))
counts_small b (suc (suc zero)) = omega (arith, field-lt b (bits 34 4 2))
counts_small b (suc (suc (suc zero))) = omega (arith, field-lt b (bits 34 6 2))
counts_small b (suc (suc (suc (suc zero)))) = omega (arith, field-lt b (bits 34 8 4))
counts_small b (suc (suc (suc (suc (suc zero))))) = omega (arith, field-lt b (bits 34 12 2))
counts_small b (suc (suc (suc (suc (suc (suc zero)))))) = omega (arith, field-lt b (bits 34 14 2))
counts_small b (suc (suc (suc (suc (suc (suc (suc zero))))))) = omega (arith, field-lt b (bits 34 16 2))
counts_small b (suc (suc (suc (suc (suc (suc (suc (suc zero)))))))) = omega (arith, field-lt b (bits 34 18 2))
counts_small b (suc (suc (suc (suc (suc (suc (suc (suc (suc zero))))))))) = omega (arith, field-lt b (bits 34 20 4))
counts_small b (suc (suc (suc (suc (suc (suc (suc (suc (suc (suc i)))))))))) = omega arith

home_small : (b : List ℕ) (i : ℕ) → home_in b i < 16
unfolding places.home_value
home_small b i = elim (cases_Bool (nat_lt i (field b places.home_count))) [
  | inl e ↦ rw e (field-lt b (places.home_value i))
  | inr e ↦ rw e (omega arith)
]

home_sound : (b : List ℕ) → AreHomeValues (field b places.home_count) (map (home_in b) (range_with_len 0 16))
home_sound b = record {
  size = refl;
  small = λ i. elim (cases_lt i 16) [
    | inl lt ↦ rw (get_or-map-range_with_len (home_in b) 0 16 i i 0 lt (omega arith)) (home_small b i)
    | inr ge ↦ rw (get_or_past (map (home_in b) (range_with_len 0 16)) i 0 ge) (omega arith)
  ];
  past = λ i le. elim (cases_lt i 16) [
    | inl lt ↦ get_or-map-range_with_len (home_in b) 0 16 i i 0 lt (omega arith) ∙ cond-false (nat_lt i (field b places.home_count)) (field b (places.home_value i)) 0 (le-ltb i (field b places.home_count) le)
    | inr ge ↦ get_or_past (map (home_in b) (range_with_len 0 16)) i 0 ge
  ];
}

pub known-sound : (b : List ℕ) → IsEntry (known_in b)
unfolding known_in without_faults entry_in places.home_count places.white_value places.black_value
known-sound b =
    let event = event_known b in
    record {
      len = field-lt b spots.len;
      marks = field-lt b spots.marks;
      white = field-lt b spots.white;
      black = field-lt b spots.black;
      event = field-lt b spots.event;
      site = field-lt b spots.site;
      round = field-lt b spots.round;
      vars = field-lt b spots.vars;
      comments = field-lt b spots.comments;
      nags = field-lt b spots.nags;
      plies = field-lt b spots.plies;
      eco = eco_by (nat_lt 65500 (field b places.eco)) (field b places.eco) (λ is. ltb-false 65500 (field b places.eco) is);
      date = date_sound b;
      event_date = event.0;
      event_rule = event.1;
      white_rating = rating_sound (field b places.white_kind) (field b places.white_value) (field-lt b places.white_value);
      black_rating = rating_sound (field b places.black_kind) (field b places.black_value) (field-lt b places.black_value);
      material = record { size = refl; small = counts_small b };
      home_count = field-lt b places.home_count;
      home = home_sound b;
    }

-- ---- the bytes of an event's date.

pub event_code_read : (b : List ℕ) → IsBytes b → field b places.event_code ≡ get_or b 25 0 / 32
unfolding places.event_code
event_code_read b h = omega (arith, field-run b 25 1 200 3 5 h (omega arith) refl, h 25)

pub event_month_read : (b : List ℕ) → IsBytes b → field b places.event_month ≡ get_or b 25 0 / 2 % 16
unfolding places.event_month
event_month_read b h = omega (arith, field-run b 25 1 203 4 1 h (omega arith) refl, h 25)

pub event_day_read : (b : List ℕ) → IsBytes b → field b places.event_day ≡ (get_or b 25 0 % 2) * 16 + get_or b 26 0 / 16
unfolding places.event_day
event_day_read b h = omega (arith, field-run b 25 2 207 5 4 h (omega arith) refl, h 25, h 26)
