-- Where the bytes spell a tag they are read as it, and bytes that are read as a tag spell it.
use Rattle.std.proofs.Common.{◌≡◌, ◌≢◌, ℕ, ◌+◌, ◌-◌, ◌*◌, ◌/◌, ◌%◌, ◌<◌, ◌≤◌, inl, inr, Bool, true, false, ◌&&◌, ◌==◌, nat_le, nat_lt, List, [], ◌∷◌, ◌++◌, Option, Some, None, Result, Ok, Err, length, slice_index_or, take, drop, refl, sym, ap, subst, ◌∙◌, arith, codes, append_assoc, All, length-append, lit≤}
use Rattle.std.specs.List.{list_all, slice_get}
use Rattle.std.proofs.Math.Nat.{div-div-eq-div-mul}
use Rattle.std.proofs.lemmas.Bool.{cases_Bool, cond_both, eqb-true, eqb-false, ne_eqb, leb-true, leb-false, le-leb, lt-leb, ltb-false, le-ltb, not-true, and_from, and_parts, not_from_false}
use Rattle.std.proofs.lemmas.List.{take_at, drop_at, take-append-drop, length-take-le, drop-drop, length-drop}
use Rattle.std.proofs.lemmas.List.Elements.{All-head, All-tail, All-nil, All-cons, All-from_recursion}
use Rattle.std.proofs.lemmas.Option.{slice_get_within, slice_get-get_or, get_or_from_slice_get}
use Rattle.game_tree.specs.Date.{IsDate, date_number, date_of, date_text, shown}
use Rattle.game_tree.specs.Head.{IsName}
use Rattle.game_tree.specs.TagName.{is_tag_byte, IsTagByte, IsTagName}
use Rattle.game_tree.specs.declared.date.Date.{Date}
use Rattle.game_tree.specs.declared.head.Tag.{Tag}
use Rattle.game_codec.specs.TagSpelling.{coded_names, counted, SpellsTag}
use Rattle.game_codec.specs.TagReading.{BeginsTag, Part, part_at, is_value_byte, value_at, with_value, with_name, dated, date_at, tag_at}
use Rattle.game_codec.specs.declared.fault.RecordWhat.{RecordWhat}
use Rattle.game_codec.specs.declared.fault.RecordWhat.TheVariants.{TagName, TagValue}

-- Texts of which each byte passes a test

all_pass : (good : ℕ → Bool) (P : ℕ → Type 0) → ((b : ℕ) → P b → good b ≡ true) → (text : List ℕ) → All P text
    → list_all good text ≡ true
all_pass good P passes [] h = refl
all_pass good P passes (b ∷ text) h =
    and_from (good b) (list_all good text) (passes b (All-head P b text h))
    (all_pass good P passes text (All-tail P b text h))

each_passes : {X : Type 0} (good : X → Bool) (P : X → Type 0) → ((x : X) → good x ≡ true → P x) → (xs : List X)
    → list_all good xs ≡ true → All P xs
each_passes good P tells [] h = All-nil P
each_passes good P tells (x ∷ xs) h =
    let parts = and_parts (good x) (list_all good xs) h in
    All-cons P x xs (tells x parts.0) (each_passes good P tells xs parts.1)

value_byte : (b : ℕ) → b ≢ 0 → is_value_byte b ≡ true
value_byte b h = not_from_false _ (ne_eqb b 0 h)

value_byte_tells : (b : ℕ) → is_value_byte b ≡ true → b ≢ 0
value_byte_tells b h = eqb-false b 0 (not-true _ h)

pub all_right : (P : ℕ → Type 0) (xs ys : List ℕ) → All P (xs ++ ys) → All P ys
all_right P [] ys h = h
all_right P (x ∷ xs) ys h = all_right P xs ys (All-tail P x (xs ++ ys) h)

-- A part of some length

part_reads : (good : ℕ → Bool) (what : RecordWhat) (text later : List ℕ) → list_all good text ≡ true
    → part_at good what (length text) (text ++ later) ≡ Ok (text, later)
unfolding part_at
part_reads good what text later pass =
    let size : nat_lt (length (text ++ later)) (length text) ≡ false
    = le-ltb (length (text ++ later)) (length text) (omega (arith, length-append {A = ℕ})) in
    rw (take_at text later (length text) refl, drop_at text later (length text) refl, pass, size) refl

-- What a part that was read is.
record WasPart (good : ℕ → Bool) (n : ℕ) (bytes : List ℕ) (part : Part) : Type 0 where
  size : length part.0 ≡ n
  pass : list_all good part.0 ≡ true
  spelled : bytes ≡ part.0 ++ part.1

part_was : (good : ℕ → Bool) (what : RecordWhat) (n : ℕ) (bytes : List ℕ) (part : Part)
    → part_at good what n bytes ≡ Ok part → WasPart good n bytes part
unfolding part_at
part_was good what n bytes part h =
    elim (cases_Bool (list_all good (take n bytes))) [
      | inl pass ↦
          elim (cases_Bool (nat_lt (length bytes) n)) [
            | inl few ↦ let e = rw (pass, few) at h in absurd (cc)
            | inr size ↦
                let e : ◌≡◌ {A = Result Part RecordWhat} (Ok (take n bytes, drop n bytes)) (Ok part) = rw (pass, size) at h in
                let same : (take n bytes, drop n bytes) ≡ part = cc in
                subst (λ (p : Part). WasPart good n bytes p) same (record {
                  size = length-take-le n bytes (ltb-false (length bytes) n size);
                  pass = pass;
                  spelled = sym (take-append-drop n bytes);
                })
          ]
      | inr fails ↦ let e = rw fails at h in absurd (cc)
    ]

-- A value behind its length

value_reads : (value later : List ℕ) → IsName value → value_at (counted value ++ later) ≡ Ok (value, later)
unfolding value_at
value_reads value later h =
    part_reads is_value_byte TagValue value later (all_pass is_value_byte (λ b. b ≢ 0) value_byte value h.zero_free)

value_was : (bytes : List ℕ) (part : Part) → All (λ b. b < 256) bytes → value_at bytes ≡ Ok part
    → IsName part.0 × (bytes ≡ counted part.0 ++ part.1)
unfolding value_at
value_was [] part small h = absurd (cc)
value_was (n ∷ bytes) part small h =
    let w = part_was is_value_byte TagValue n bytes part h in
    let size = w.size in
    let spelled = w.spelled in
    let below : n < 256 = All-head (λ b. b < 256) n bytes small in (
      record {
        short = omega arith;
        zero_free = each_passes is_value_byte (λ b. b ≢ 0) value_byte_tells part.0 w.pass;
      },
      cc,
    )

-- A packed date

number_of : (n : ℕ) → 65536 * (n / 65536) + 256 * (n / 256 % 256) + n % 256 ≡ n
number_of n =
    let d : n / 256 / 256 ≡ n / 65536 = div-div-eq-div-mul n 256 256 in
    omega arith

module _ (date : Date) (kept : IsDate date) where
  year_of : date_number date / 512 ≡ date.year
  year_of = let day = kept.day in let month = kept.month in omega arith

  month_of : date_number date / 32 % 16 ≡ date.month
  month_of = let day = kept.day in let month = kept.month in omega arith

  day_of : date_number date % 32 ≡ date.day
  day_of = let day = kept.day in let month = kept.month in omega arith

  date_reads : (later : List ℕ)
      → dated (date_number date) later ≡ Ok (Some (record { name = codes "EventDate"; value = date_text date }, later))
  date_reads later = rw (year_of, month_of, day_of, le-leb date.year 2047 kept.year, le-leb date.month 12 kept.month) refl

number_was : (n : ℕ) → n / 512 * 512 + n / 32 % 16 * 32 + n % 32 ≡ n
number_was n =
    let d : n / 32 / 16 ≡ n / 512 = div-div-eq-div-mul n 32 16 in
    omega arith

-- Reading what spells a tag

spelled_out-reads : (tag : Tag) (later : List ℕ) → IsTagName tag.name → IsName tag.value
    → tag_at ((counted tag.name ++ counted tag.value) ++ later) ≡ Ok (Some (tag, later))
unfolding tag_at
spelled_out-reads tag later name value =
    let some = name.some in
    let pass = all_pass is_tag_byte IsTagByte (λ b h. h) tag.name name.bytes in
    rw (
      append_assoc tag.name (counted tag.value) later,
      ne_eqb (length tag.name) 0 (λ e. omega (arith, e)),
      le-leb (length tag.name) 240 name.short,
      part_reads is_tag_byte TagName tag.name (counted tag.value ++ later) pass,
      value_reads tag.value later value,
    ) refl

coded-reads : (tag : Tag) (number : ℕ) (later : List ℕ) → slice_get coded_names number ≡ Some tag.name
    → IsName tag.value → tag_at ((241 + number) ∷ counted tag.value ++ later) ≡ Ok (Some (tag, later))
unfolding tag_at
coded-reads tag number later name value =
    let below : number < 10 = slice_get_within coded_names number tag.name name in
    let back : 241 + number - 241 ≡ number = omega arith in
    rw (
      ne_eqb (241 + number) 0 (λ e. omega (arith, e)),
      lt-leb (241 + number) 240 (omega arith),
      le-leb (241 + number) 250 (omega arith),
      back,
      get_or_from_slice_get coded_names number tag.name [] name,
      value_reads tag.value later value,
    ) refl

dated-reads : (date : Date) (later : List ℕ) → IsDate date
    → tag_at (255 ∷ date_number date / 65536 ∷ date_number date / 256 % 256 ∷ date_number date % 256 ∷ later)
    ≡ Ok (Some (record { name = codes "EventDate"; value = date_text date }, later))
unfolding tag_at date_at
dated-reads date later kept = rw (number_of (date_number date)) (date_reads date kept later)

same_tag : (a b : Tag) → a.name ≡ b.name → a.value ≡ b.value → a ≡ b
same_tag a b name value =
    ap (λ (n : List ℕ). record a { name = n }) name ∙ ap (λ (v : List ℕ). record b { value = v }) value

pub tag_at-SpellsTag : (bytes : List ℕ) (tag : Tag) (later : List ℕ) → SpellsTag bytes tag later
    → tag_at bytes ≡ Ok (Some (tag, later))
tag_at-SpellsTag bytes tag later (spelled, inl h, e) =
    rw (e, h.spelled) (spelled_out-reads tag later h.name h.value)
tag_at-SpellsTag bytes tag later (spelled, inr (inl h), e) =
    rw (e, h.spelled) (coded-reads tag h.number later h.name h.value)
tag_at-SpellsTag bytes tag later (spelled, inr (inr h), e) =
    let same = same_tag (record { name = codes "EventDate"; value = date_text h.date }) tag (sym h.name) (sym h.value) in
    rw (e, h.spelled) (dated-reads h.date later h.kept ∙ ap (λ (t : Tag). Ok (Some (t, later))) same)

-- What was read spells a tag

with_name_was : (r : Result Part RecordWhat) (tag : Tag) (later : List ℕ) → with_name r ≡ Ok (Some (tag, later))
    → (part : Part) × (r ≡ Ok part) × (with_value part.0 (value_at part.1) ≡ Ok (Some (tag, later)))
with_name_was (Err what) tag later h = absurd (cc)
with_name_was (Ok part) tag later h = (part, refl, h)

same_read : (a b : Tag × List ℕ) → ◌≡◌ {A = Result (Option (Tag × List ℕ)) RecordWhat} (Ok (Some a)) (Ok (Some b)) → a ≡ b
same_read a b e = cc

with_value_was : (name : List ℕ) (r : Result Part RecordWhat) (tag : Tag) (later : List ℕ)
    → with_value name r ≡ Ok (Some (tag, later)) → (r ≡ Ok (tag.value, later)) × (tag.name ≡ name)
with_value_was name (Err what) tag later h = absurd (cc)
with_value_was name (Ok part) tag later h =
    let e = same_read (record { name = name; value = part.0 }, part.1) (tag, later) h in
    (ap (λ (q : Tag × List ℕ). Ok (q.0.value, q.1)) e, sym (ap (λ (q : Tag × List ℕ). q.0.name) e))

spelled_out-from : (n : ℕ) (bytes behind : List ℕ) (tag : Tag) (later : List ℕ) → 0 < n → n ≤ 240
    → WasPart is_tag_byte n bytes (tag.name, behind) → IsName tag.value × (behind ≡ counted tag.value ++ later)
    → SpellsTag (n ∷ bytes) tag later
spelled_out-from n bytes behind tag later some few w value =
    let size = w.size in
    let e : bytes ≡ (tag.name ++ counted tag.value) ++ later
    = w.spelled ∙ ap (λ (b : List ℕ). tag.name ++ b) value.1 ∙ sym (append_assoc tag.name (counted tag.value) later) in (
      counted tag.name ++ counted tag.value,
      inl (record {
        name = record {
          some = omega arith;
          short = omega arith;
          bytes = each_passes is_tag_byte IsTagByte (λ b h. h) tag.name w.pass;
        };
        value = value.0;
        spelled = refl;
      }),
      cc,
    )

spelled_out-was : (n : ℕ) (bytes : List ℕ) (tag : Tag) (later : List ℕ) → 0 < n → n ≤ 240 → All (λ b. b < 256) bytes
    → with_name (part_at is_tag_byte TagName n bytes) ≡ Ok (Some (tag, later)) → SpellsTag (n ∷ bytes) tag later
spelled_out-was n bytes tag later some few small h =
    let (part, name_read, value_read) = with_name_was (part_at is_tag_byte TagName n bytes) tag later h in
    let w = part_was is_tag_byte TagName n bytes part name_read in
    let v = with_value_was part.0 (value_at part.1) tag later value_read in
    let small' : All (λ b. b < 256) part.1 = all_right (λ b. b < 256) part.0 part.1 (rw w.spelled at small) in
    spelled_out-from n bytes part.1 tag later some few
    (subst (λ (name : List ℕ). WasPart is_tag_byte n bytes (name, part.1)) (sym v.1) w)
    (value_was part.1 (tag.value, later) small' v.0)

coded-was : (code : ℕ) (bytes : List ℕ) (tag : Tag) (later : List ℕ) → 240 < code → code ≤ 250
    → All (λ b. b < 256) bytes
    → with_value (slice_index_or coded_names (code - 241) []) (value_at bytes) ≡ Ok (Some (tag, later))
    → SpellsTag (code ∷ bytes) tag later
coded-was code bytes tag later above below small h =
    let v = with_value_was (slice_index_or coded_names (code - 241) []) (value_at bytes) tag later h in
    let value = value_was bytes (tag.value, later) small v.0 in
    let e = value.1 in
    let back : 241 + (code - 241) ≡ code = omega arith in (
      (241 + (code - 241)) ∷ counted tag.value,
      inr (inl (record {
        number = code - 241;
        name = slice_get-get_or coded_names (code - 241) [] (omega arith) ∙ ap Some (sym v.1);
        value = value.0;
        spelled = refl;
      })),
      cc,
    )

-- A number below 2^24 from its three bytes.
number_bytes : (a b c : ℕ) → a < 256 → b < 256 → c < 256
    → ((65536 * a + 256 * b + c) / 65536 ≡ a) × ((65536 * a + 256 * b + c) / 256 % 256 ≡ b)
    × ((65536 * a + 256 * b + c) % 256 ≡ c)
number_bytes a b c h i j = (omega arith, omega arith, omega arith)

dated-was : (a b c : ℕ) (rest : List ℕ) (tag : Tag) (later : List ℕ) → a < 256 → b < 256 → c < 256
    → dated (65536 * a + 256 * b + c) rest ≡ Ok (Some (tag, later)) → SpellsTag (255 ∷ a ∷ b ∷ c ∷ rest) tag later
dated-was a b c rest tag later small_a small_b small_c h =
    let n : ℕ = 65536 * a + 256 * b + c in
    elim (cases_Bool (nat_le (n / 512) 2047 && nat_le (n / 32 % 16) 12)) [
      | inl kept ↦
          let bounds = and_parts (nat_le (n / 512) 2047) (nat_le (n / 32 % 16) 12) kept in
          let read = same_read (record { name = codes "EventDate"; value = date_text (date_of n) }, rest) (tag, later) (rw kept at h) in
          let bytes = number_bytes a b c small_a small_b small_c in
          let spelled : List ℕ = 255 ∷ a ∷ b ∷ c ∷ [] in (
            spelled,
            inr (inr (record {
              date = date_of n;
              kept = record { year = leb-true (n / 512) 2047 bounds.0; month = leb-true (n / 32 % 16) 12 bounds.1; day = omega arith };
              name = sym (ap (λ (q : Tag × List ℕ). q.0.name) read);
              value = sym (ap (λ (q : Tag × List ℕ). q.0.value) read);
              spelled = rw (number_was n, bytes.0, bytes.1, bytes.2) refl;
            })),
            ap (λ (q : Tag × List ℕ). spelled ++ q.1) read,
          )
      | inr over ↦ let e = rw over at h in absurd (cc)
    ]

date_at-was : (bytes : List ℕ) (tag : Tag) (later : List ℕ) → All (λ b. b < 256) bytes
    → date_at bytes ≡ Ok (Some (tag, later)) → SpellsTag (255 ∷ bytes) tag later
unfolding date_at
date_at-was [] tag later small h = absurd (cc)
date_at-was (a ∷ []) tag later small h = absurd (cc)
date_at-was (a ∷ b ∷ []) tag later small h = absurd (cc)
date_at-was (a ∷ b ∷ c ∷ rest) tag later small h =
    dated-was a b c rest tag later (small 0 0 (omega arith)) (small 1 0 (omega arith)) (small 2 0 (omega arith)) h

pub SpellsTag-tag_at : (bytes : List ℕ) (tag : Tag) (later : List ℕ) → All (λ b. b < 256) bytes
    → tag_at bytes ≡ Ok (Some (tag, later)) → SpellsTag bytes tag later
unfolding tag_at
SpellsTag-tag_at [] tag later small h = absurd (cc)
SpellsTag-tag_at (code ∷ bytes) tag later small h =
    let below : code < 256 = All-head (λ b. b < 256) code bytes small in
    let behind : All (λ b. b < 256) bytes = All-tail (λ b. b < 256) code bytes small in
    elim (cases_Bool (code == 0)) [
      | inl none ↦ let e = rw none at h in absurd (cc)
      | inr some ↦
          elim (cases_Bool (nat_le code 240)) [
            | inl named ↦
                let above = eqb-false code 0 some in
                spelled_out-was code bytes tag later (omega arith) (leb-true code 240 named) behind (rw (some, named) at h)
            | inr longer ↦
                elim (cases_Bool (nat_le code 250)) [
                  | inl coded ↦
                      coded-was code bytes tag later (leb-false code 240 longer) (leb-true code 250 coded) behind
                      (rw (some, longer, coded) at h)
                  | inr higher ↦
                      elim (cases_Bool (nat_le code 254)) [
                        | inl bad ↦ let e = rw (some, longer, higher, bad) at h in absurd (cc)
                        | inr date ↦
                            let above = leb-false code 254 date in
                            let last : code ≡ 255 = omega arith in
                            rw last (date_at-was bytes tag later behind (rw (some, longer, higher, date) at h))
                      ]
                ]
          ]
    ]

pub BeginsTag-one : (bytes : List ℕ) (tag tag' : Tag) (later later' : List ℕ) → BeginsTag bytes tag later
    → BeginsTag bytes tag' later' → (tag ≡ tag') × (later ≡ later')
BeginsTag-one bytes tag tag' later later' h k =
    let e = same_read (tag, later) (tag', later') (sym h ∙ k) in
    (ap (λ (q : Tag × List ℕ). q.0) e, ap (λ (q : Tag × List ℕ). q.1) e)

-- What a tag takes of the bytes, a byte at least

abbrev IsBehind : List ℕ → List ℕ → Type 0
IsBehind bytes later = (front : List ℕ) × (bytes ≡ front ++ later)

value_behind : (bytes : List ℕ) (part : Part) → value_at bytes ≡ Ok part → IsBehind bytes part.1
unfolding value_at
value_behind [] part h = absurd (cc)
value_behind (n ∷ bytes) part h =
    (n ∷ part.0, ap (λ (b : List ℕ). n ∷ b) (part_was is_value_byte TagValue n bytes part h).spelled)

named_behind : (name bytes : List ℕ) (tag : Tag) (later : List ℕ) → with_value name (value_at bytes) ≡ Ok (Some (tag, later)) → IsBehind bytes later
named_behind name bytes tag later h = value_behind bytes (tag.value, later) (with_value_was name (value_at bytes) tag later h).0

date_behind : (bytes : List ℕ) (tag : Tag) (later : List ℕ) → date_at bytes ≡ Ok (Some (tag, later)) → IsBehind bytes later
unfolding date_at
date_behind [] tag later h = absurd (cc)
date_behind (a ∷ []) tag later h = absurd (cc)
date_behind (a ∷ b ∷ []) tag later h = absurd (cc)
date_behind (a ∷ b ∷ c ∷ rest) tag later h =
    let n : ℕ = 65536 * a + 256 * b + c in
    elim (cases_Bool (nat_le (n / 512) 2047 && nat_le (n / 32 % 16) 12)) [
      | inl kept ↦
          let read = same_read (record { name = codes "EventDate"; value = date_text (date_of n) }, rest) (tag, later) (rw kept at h) in
          (a ∷ b ∷ c ∷ [], ap (λ (q : Tag × List ℕ). a ∷ b ∷ c ∷ q.1) read)
      | inr over ↦ let e = rw over at h in absurd (cc)
    ]

after_name : (bytes name rest front later : List ℕ) → bytes ≡ name ++ rest → rest ≡ front ++ later → bytes ≡ (name ++ front) ++ later
after_name bytes name rest front later first then = first ∙ ap (λ (b : List ℕ). name ++ b) then ∙ sym (append_assoc name front later)

pub tag_at-behind : (bytes : List ℕ) (tag : Tag) (later : List ℕ) → tag_at bytes ≡ Ok (Some (tag, later))
    → (first : ℕ) × ((front : List ℕ) × (bytes ≡ first ∷ front ++ later))
unfolding tag_at
tag_at-behind [] tag later h = absurd (cc)
tag_at-behind (code ∷ bytes) tag later h =
    elim (cases_Bool (code == 0)) [
      | inl none ↦ let e = rw none at h in absurd (cc)
      | inr some ↦
          elim (cases_Bool (nat_le code 240)) [
            | inl named ↦
                let (part, name_read, value_read) = with_name_was (part_at is_tag_byte TagName code bytes) tag later (rw (some, named) at h) in
                let spelled = (part_was is_tag_byte TagName code bytes part name_read).spelled in
                let value = named_behind part.0 part.1 tag later value_read in
                behind (part.0 ++ value.0) (after_name bytes part.0 part.1 value.0 later spelled value.1)
            | inr longer ↦
                elim (cases_Bool (nat_le code 250)) [
                  | inl coded ↦
                      let value = named_behind (slice_index_or coded_names (code - 241) []) bytes tag later (rw (some, longer, coded) at h) in
                      behind value.0 value.1
                  | inr higher ↦
                      elim (cases_Bool (nat_le code 254)) [
                        | inl bad ↦ let e = rw (some, longer, higher, bad) at h in absurd (cc)
                        | inr date ↦ let value = date_behind bytes tag later (rw (some, longer, higher, date) at h) in behind value.0 value.1
                      ]
                ]
          ]
    ]
  where
    behind : (front : List ℕ) → bytes ≡ front ++ later → (first : ℕ) × ((front : List ℕ) × (code ∷ bytes ≡ first ∷ front ++ later))
    behind front is = (code, (front, ap (λ (b : List ℕ). code ∷ b) is))

pub tag_at-shorter : (bytes : List ℕ) (tag : Tag) (later : List ℕ) → tag_at bytes ≡ Ok (Some (tag, later)) → length later < length bytes
tag_at-shorter bytes tag later h =
    let (first, (front, is)) = tag_at-behind bytes tag later h in
    omega (arith, ap (λ (b : List ℕ). length b) is, length-append front later)

-- What a tag that was read may be

is_tag_name : List ℕ → Bool
is_tag_name name = nat_le 1 (length name) && nat_le (length name) 240 && list_all is_tag_byte name

tag_name_tells : (name : List ℕ) → is_tag_name name ≡ true → IsTagName name
unfolding is_tag_name
tag_name_tells name h =
    let p = and_parts (nat_le 1 (length name) && nat_le (length name) 240) (list_all is_tag_byte name) h in
    let q = and_parts (nat_le 1 (length name)) (nat_le (length name) 240) p.0 in
    record {
      some = leb-true 1 (length name) q.0;
      short = leb-true (length name) 240 q.1;
      bytes = each_passes is_tag_byte IsTagByte (λ b h. h) name p.1;
    }

coded_tag_names : All IsTagName coded_names
unfolding is_tag_name
coded_tag_names = each_passes is_tag_name IsTagName tag_name_tells coded_names refl

event_date_name : IsTagName (codes "EventDate")
unfolding is_tag_name
event_date_name = tag_name_tells (codes "EventDate") refl

shown_some : (part number : ℕ) → shown part number ≢ 0
shown_some part number = cond_both (part == 0) 63 (48 + number % 10) (λ n. n ≢ 0) (λ h e. omega (arith, e)) (λ h e. omega (arith, e))

dot_some : ◌≢◌ {A = ℕ} 46 0
dot_some e = omega (arith, e)

date_text_name : (d : Date) → IsName (date_text d)
unfolding date_text
date_text_name d =
    let some = shown_some in
    let dot = dot_some in
    record {
      short = lit≤ tt;
      zero_free = All-from_recursion (λ b. b ≢ 0) (date_text d)
          (some _ _, (some _ _, (some _ _, (some _ _, (dot, (some _ _, (some _ _, (dot, (some _ _, (some _ _, tt))))))))));
    }

pub SpellsTag-name : (bytes : List ℕ) (tag : Tag) (later : List ℕ) → SpellsTag bytes tag later → IsTagName tag.name
SpellsTag-name bytes tag later (spelled, inl h, e) = h.name
SpellsTag-name bytes tag later (spelled, inr (inl h), e) =
    let below = slice_get_within coded_names h.number tag.name h.name in
    subst IsTagName (get_or_from_slice_get coded_names h.number tag.name [] h.name) (coded_tag_names h.number [] below)
SpellsTag-name bytes tag later (spelled, inr (inr h), e) = rw h.name event_date_name

pub SpellsTag-value : (bytes : List ℕ) (tag : Tag) (later : List ℕ) → SpellsTag bytes tag later → IsName tag.value
SpellsTag-value bytes tag later (spelled, inl h, e) = h.value
SpellsTag-value bytes tag later (spelled, inr (inl h), e) = h.value
SpellsTag-value bytes tag later (spelled, inr (inr h), e) = rw h.value (date_text_name h.date)

-- The zero byte that ends the tags

with_value-some : (name : List ℕ) (r : Result Part RecordWhat) → with_value name r ≡ Ok None → ⊥
with_value-some name (Err what) h = cc
with_value-some name (Ok part) h = cc

with_name-some : (r : Result Part RecordWhat) → with_name r ≡ Ok None → ⊥
with_name-some (Err what) h = cc
with_name-some (Ok part) h = with_value-some part.0 (value_at part.1) h

date_at-some : (bytes : List ℕ) → date_at bytes ≡ Ok None → ⊥
unfolding date_at
date_at-some [] h = cc
date_at-some (a ∷ []) h = cc
date_at-some (a ∷ b ∷ []) h = cc
date_at-some (a ∷ b ∷ c ∷ rest) h =
    let n : ℕ = 65536 * a + 256 * b + c in
    elim (cases_Bool (nat_le (n / 512) 2047 && nat_le (n / 32 % 16) 12)) [
      | inl kept ↦ let e = rw kept at h in cc
      | inr over ↦ let e = rw over at h in cc
    ]

pub tag_at-end : (rest : List ℕ) → tag_at (0 ∷ rest) ≡ Ok None
unfolding tag_at
tag_at-end rest = refl

pub end-tag_at : (bytes : List ℕ) → tag_at bytes ≡ Ok None → (rest : List ℕ) × (bytes ≡ 0 ∷ rest)
unfolding tag_at
end-tag_at [] h = absurd (cc)
end-tag_at (code ∷ bytes) h =
    elim (cases_Bool (code == 0)) [
      | inl none ↦ (bytes, ap (λ (b : ℕ). b ∷ bytes) (eqb-true code 0 none))
      | inr some ↦
          elim (cases_Bool (nat_le code 240)) [
            | inl named ↦ absurd (with_name-some (part_at is_tag_byte TagName code bytes) (rw (some, named) at h))
            | inr longer ↦
                elim (cases_Bool (nat_le code 250)) [
                  | inl coded ↦
                      absurd (with_value-some (slice_index_or coded_names (code - 241) []) (value_at bytes)
                      (rw (some, longer, coded) at h))
                  | inr higher ↦
                      elim (cases_Bool (nat_le code 254)) [
                        | inl bad ↦ let e = rw (some, longer, higher, bad) at h in absurd (cc)
                        | inr date ↦ absurd (date_at-some bytes (rw (some, longer, higher, date) at h))
                      ]
                ]
          ]
    ]

-- One step of reading

pub next_tag-is : (bytes : List ℕ) (tag read : Tag) (used : ℕ) → tag ≡ read
    → tag_at bytes ≡ Ok (Some (read, drop used (drop 1 bytes))) → used ≤ length (drop 1 bytes) → 0 < length bytes
    → BeginsTag bytes tag (drop (1 + used) bytes) × (0 < 1 + used) × (1 + used ≤ length bytes)
next_tag-is bytes tag read used same h fits some =
    let e : tag_at bytes ≡ Ok (Some (tag, drop (1 + used) bytes)) = rw (same, ← drop-drop used 1 bytes) h in
    (e, omega arith, omega (arith, length-drop {A = ℕ}))
