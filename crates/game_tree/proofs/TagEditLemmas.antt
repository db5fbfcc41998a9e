-- What edits of heads keep, and that settling goes beside the parts that it does not ask for.
use Rattle.std.proofs.Common.{◌≡◌, ℕ, ◌≤◌, ◌<◌, ◌^◌, Bool, true, false, eqb, List, [], ◌∷◌, ◌++◌, Option, Some, None, Result, Ok, refl, sym, ap, subst, ◌∙◌, inl, inr, arith}
use Rattle.std.specs.Prelude.{not, ◌&&◌, ◌==◌, nat_le, if◌then◌else◌, All, codes, length}
use Rattle.std.specs.List.{list_all}
use Rattle.std.specs.Str.{bytes_eq}
use Rattle.std.proofs.lemmas.Bool.{cases_Bool, and_parts, eqb-true, eqb-false, leb-true, false_from_ne_true}
use Rattle.std.proofs.lemmas.Option.{same_Some}
use Rattle.std.proofs.lemmas.List.Elements.{All-cons, All-head, All-tail, All-filter}
use Rattle.std.proofs.lemmas.List.Sums.{AllPass-from_list_all}
use Rattle.std.proofs.lemmas.Slice.Eq.{bytes_eq-Decides}
use Rattle.cell_core.specs.declared.man.Colour.{Colour}
use Rattle.cell_core.specs.declared.man.Colour.TheVariants.{White, Black}
use Rattle.game_tree.specs.Date.{IsDate, unknown_date, is_unknown, is_near, date_read}
use Rattle.game_tree.specs.Decimal.{decimal_read}
use Rattle.game_tree.specs.Outcome.{outcome_read}
use Rattle.game_tree.specs.TagName.{is_refused, is_reserved, is_tag_byte, is_tag_name, IsTagName, rating_of}
use Rattle.game_tree.specs.Head.{IsBounded, IsName, is_name, IsRating, IsTag}
use Rattle.game_tree.specs.Settle.{event_date_name, event_date_tag, first_near_date, taken_up, with_dates, settled, IsSettled}
use Rattle.game_tree.specs.TagList.{is_named, tags_without, put_tag, with_tag}
use Rattle.game_tree.specs.TagEdit.{valued, eco_value, rating_with, rating_edit, rating_or_extra, named_edit, IsEdit, edit_of, changed, edited}
use Rattle.game_tree.specs.declared.date.Date.{Date}
use Rattle.game_tree.specs.declared.head.Tag.{Tag}
use Rattle.game_tree.specs.declared.head.Head.{Head}
use Rattle.game_tree.specs.declared.head.Outcome.{Outcome}
use Rattle.game_tree.specs.declared.head.Rating.{Rating}
use Rattle.game_tree.specs.declared.tag_edit.TagEdit.{TagEdit}
use Rattle.game_tree.specs.declared.tag_edit.TagEdit.TheVariants as edit
use Rattle.game_tree.specs.declared.tag_edit.TagEditError.{TagEditError}
use Rattle.game_tree.proofs.NameLemmas.{zero_free-from_test}
use Rattle.game_tree.proofs.DateLemmas.{date_read-IsDate}
use Rattle.game_tree.proofs.DecimalLemmas.{decimal_read-bound}
use Rattle.game_tree.proofs.EcoLemmas.{eco_read-bound}
use Rattle.game_tree.proofs.TagNameLemmas.{rating_of-kind}
use Rattle.game_tree.proofs.SettleLemmas.{settled-near, settled-unknown, settled-far, settled-settled, settled-IsBounded, first_near-others, others_again}

-- ---- settling changes the event date and the tags alone

abbrev found_date : Option Date → Date → Date
found_date None other = other
found_date (Some date) other = date

abbrev found_tags : Option Date → List Tag → List Tag
found_tags None tags = tags
found_tags (Some date) tags = tags_without event_date_name tags

-- The event date that settling gives, and the tags.
settled_date : Date → Date → List Tag → Date
settled_date game event tags =
    if is_near event game then event
    else if is_unknown event then found_date (first_near_date game tags) event
    else unknown_date

settled_tags : Date → Date → List Tag → List Tag
settled_tags game event tags =
    if is_near event game then tags_without event_date_name tags
    else if is_unknown event then found_tags (first_near_date game tags) tags
    else tags_without event_date_name tags ++ event_date_tag event ∷ []

abbrev settled_by_parts : Head → Head
settled_by_parts head = record head {
  event_date = settled_date head.date head.event_date head.tags;
  tags = settled_tags head.date head.event_date head.tags;
}

taken_up-parts : (head : Head) (found : Option Date) → taken_up head found ≡ record head { event_date = found_date found head.event_date; tags = found_tags found head.tags }
taken_up-parts head None = refl
taken_up-parts head (Some date) = refl

settled-parts : (head : Head) → settled head ≡ settled_by_parts head
unfolding settled_date settled_tags
settled-parts head =
    elim (cases_Bool (is_near head.event_date head.date)) [
      | inl near ↦ settled-near head near ∙ rw near refl
      | inr far ↦ elim (cases_Bool (is_unknown head.event_date)) [
        | inl unknown ↦ settled-unknown head far unknown ∙ taken_up-parts head (first_near_date head.date head.tags) ∙ rw (far, unknown) refl
        | inr known ↦ settled-far head far known ∙ rw (far, known) refl
      ]
    ]

pub event_apart : (head : Head) (text : List ℕ) → settled (record head { event = text }) ≡ record (settled head) { event = text }
event_apart head text = rw (settled-parts (record head { event = text }), settled-parts head) refl

pub site_apart : (head : Head) (text : List ℕ) → settled (record head { site = text }) ≡ record (settled head) { site = text }
site_apart head text = rw (settled-parts (record head { site = text }), settled-parts head) refl

pub round_apart : (head : Head) (text : List ℕ) → settled (record head { round = text }) ≡ record (settled head) { round = text }
round_apart head text = rw (settled-parts (record head { round = text }), settled-parts head) refl

pub white_apart : (head : Head) (text : List ℕ) → settled (record head { white = text }) ≡ record (settled head) { white = text }
white_apart head text = rw (settled-parts (record head { white = text }), settled-parts head) refl

pub black_apart : (head : Head) (text : List ℕ) → settled (record head { black = text }) ≡ record (settled head) { black = text }
black_apart head text = rw (settled-parts (record head { black = text }), settled-parts head) refl

pub result_apart : (head : Head) (outcome : Outcome) → settled (record head { result = outcome }) ≡ record (settled head) { result = outcome }
result_apart head outcome = rw (settled-parts (record head { result = outcome }), settled-parts head) refl

pub white_rating_apart : (head : Head) (rating : Rating) → settled (record head { white_rating = rating }) ≡ record (settled head) { white_rating = rating }
white_rating_apart head rating = rw (settled-parts (record head { white_rating = rating }), settled-parts head) refl

pub black_rating_apart : (head : Head) (rating : Rating) → settled (record head { black_rating = rating }) ≡ record (settled head) { black_rating = rating }
black_rating_apart head rating = rw (settled-parts (record head { black_rating = rating }), settled-parts head) refl

pub eco_apart : (head : Head) (number : ℕ) → settled (record head { eco = number }) ≡ record (settled head) { eco = number }
eco_apart head number = rw (settled-parts (record head { eco = number }), settled-parts head) refl

pub ruleset settling_apart =
    (event_apart, site_apart, round_apart, white_apart, black_apart, result_apart, white_rating_apart, black_rating_apart, eco_apart)

-- ---- an event date takes the place of all tags EventDate

-- Without one, what is left is settled.
pub unknown-alone : (head : Head) (date : Date) → is_unknown date ≡ true → settled (changed head (edit.EventDate date)) ≡ changed head (edit.EventDate date)
unknown-alone head date unknown =
    let far : is_near date head.date ≡ false = unknown_far date head.date unknown in
    settled-unknown (changed head (edit.EventDate date)) far unknown ∙ ap (taken_up (changed head (edit.EventDate date))) (first_near-others head.date head.tags)
  where
    unknown_far : (date game : Date) → is_unknown date ≡ true → is_near date game ≡ false
    unknown_far date game unknown =
        let year = eqb-true date.year 0 (and_parts (eqb date.year 0) (eqb date.month 0) (and_parts (eqb date.year 0 && eqb date.month 0) (eqb date.day 0) unknown).0).0 in
        rw year refl

pub known-alone : (head : Head) (date : Date) → is_unknown date ≡ false → settled (changed head (edit.EventDate date)) ≡ settled (with_dates head head.date date)
known-alone head date known =
    elim (cases_Bool (is_near date head.date)) [
      | inl near ↦
          settled-near (changed head (edit.EventDate date)) near
          ∙ ap (λ (tags : List Tag). record head { event_date = date; tags = tags }) (others_again head.tags)
          ∙ sym (settled-near (with_dates head head.date date) near)
      | inr far ↦
          settled-far (changed head (edit.EventDate date)) far known
          ∙ ap (λ (tags : List Tag). record head { event_date = unknown_date; tags = tags ++ event_date_tag date ∷ [] }) (others_again head.tags)
          ∙ sym (settled-far (with_dates head head.date date) far known)
    ]

pub ruleset event_date_alone = (unknown-alone, known-alone)

-- ---- the bounds

put_tag-tags : (tag : Tag) (tags : List Tag) → IsTag tag → All IsTag tags → All IsTag (put_tag tag tags)
put_tag-tags tag [] is all = All-cons IsTag tag [] is all
put_tag-tags tag (first ∷ tags) is all =
    elim (cases_Bool (is_named tag.name first)) [
      | inl same ↦ rw same (All-cons IsTag tag tags is (All-tail IsTag first tags all))
      | inr other ↦ rw other (All-cons IsTag first (put_tag tag tags) (All-head IsTag first tags all) (put_tag-tags tag tags is (All-tail IsTag first tags all)))
    ]

without-tags : (name : List ℕ) (tags : List Tag) → All IsTag tags → All IsTag (tags_without name tags)
without-tags name tags all = All-filter (λ tag. not (is_named name tag)) IsTag tags all

with_tag-tags : (tag : Tag) (tags : List Tag) → IsTag tag → All IsTag tags → All IsTag (with_tag tag tags)
unfolding with_tag
with_tag-tags tag tags is all =
    elim (cases_Bool (eqb (length tag.value) 0)) [
      | inl none ↦ rw none (without-tags tag.name tags all)
      | inr some ↦ rw some (put_tag-tags tag tags is all)
    ]

-- A head each of whose parts is within its bounds.
bounded : (h : Head) → IsName h.white → IsName h.black → IsName h.event → IsName h.site → IsName h.round → IsDate h.date
    → IsDate h.event_date → IsRating h.white_rating → IsRating h.black_rating → h.eco ≤ 65500 → h.marks < 2 ^ 18
    → All IsTag h.tags → IsBounded h
bounded h a b c d e f g i j k l m = record {
  white = a;
  black = b;
  event = c;
  site = d;
  round = e;
  date = f;
  event_date = g;
  white_rating = i;
  black_rating = j;
  eco = k;
  marks = l;
  tags = m;
}

pub changed-IsBounded : (head : Head) (e : TagEdit) → IsBounded head → IsEdit e → IsBounded (changed head e)
changed-IsBounded head (edit.Event text) is part =
    bounded (changed head (edit.Event text)) is.white is.black part is.site is.round is.date is.event_date is.white_rating is.black_rating is.eco is.marks is.tags
changed-IsBounded head (edit.Site text) is part =
    bounded (changed head (edit.Site text)) is.white is.black is.event part is.round is.date is.event_date is.white_rating is.black_rating is.eco is.marks is.tags
changed-IsBounded head (edit.Date date) is part =
    bounded (changed head (edit.Date date)) is.white is.black is.event is.site is.round part is.event_date is.white_rating is.black_rating is.eco is.marks is.tags
changed-IsBounded head (edit.Round text) is part =
    bounded (changed head (edit.Round text)) is.white is.black is.event is.site part is.date is.event_date is.white_rating is.black_rating is.eco is.marks is.tags
changed-IsBounded head (edit.White text) is part =
    bounded (changed head (edit.White text)) part is.black is.event is.site is.round is.date is.event_date is.white_rating is.black_rating is.eco is.marks is.tags
changed-IsBounded head (edit.Black text) is part =
    bounded (changed head (edit.Black text)) is.white part is.event is.site is.round is.date is.event_date is.white_rating is.black_rating is.eco is.marks is.tags
changed-IsBounded head (edit.Result outcome) is part =
    bounded (changed head (edit.Result outcome)) is.white is.black is.event is.site is.round is.date is.event_date is.white_rating is.black_rating is.eco is.marks is.tags
changed-IsBounded head (edit.WhiteRating rating) is part =
    bounded (changed head (edit.WhiteRating rating)) is.white is.black is.event is.site is.round is.date is.event_date part is.black_rating is.eco is.marks is.tags
changed-IsBounded head (edit.BlackRating rating) is part =
    bounded (changed head (edit.BlackRating rating)) is.white is.black is.event is.site is.round is.date is.event_date is.white_rating part is.eco is.marks is.tags
changed-IsBounded head (edit.Eco number) is part =
    bounded (changed head (edit.Eco number)) is.white is.black is.event is.site is.round is.date is.event_date is.white_rating is.black_rating part is.marks is.tags
changed-IsBounded head (edit.EventDate date) is part =
    bounded (changed head (edit.EventDate date)) is.white is.black is.event is.site is.round is.date part is.white_rating is.black_rating is.eco is.marks (without-tags event_date_name head.tags is.tags)
changed-IsBounded head (edit.Extra tag) is part =
    bounded (changed head (edit.Extra tag)) is.white is.black is.event is.site is.round is.date is.event_date is.white_rating is.black_rating is.eco is.marks (with_tag-tags tag head.tags part is.tags)

pub edited-IsBounded : (head : Head) (e : TagEdit) → IsBounded head → IsEdit e → IsBounded (edited head e)
edited-IsBounded head e is part = settled-IsBounded (changed head e) (changed-IsBounded head e is part)

pub edited-IsSettled : (head : Head) (e : TagEdit) → IsBounded head → IsEdit e → IsSettled (edited head e)
edited-IsSettled head e is part = settled-settled (changed head e) (changed-IsBounded head e is part)

pub ruleset editing = (edited-IsBounded, edited-IsSettled)

-- ---- what is read is within the bounds

-- What a value that was read is.
valued-some : {A : Type 0} (make : A → TagEdit) (found : Option A) (e : TagEdit) → valued make found ≡ Ok e → (x : A) × ((found ≡ Some x) × (make x ≡ e))
valued-some make None e h = absurd (cc)
valued-some make (Some x) e h = (x, (refl, same (make x) e h))
  where
    same : (a b : TagEdit) → ◌≡◌ {A = Result TagEdit TagEditError} (Ok a) (Ok b) → a ≡ b
    same a b h = cc

same_edit : (a b : TagEdit) → ◌≡◌ {A = Result TagEdit TagEditError} (Ok a) (Ok b) → a ≡ b
same_edit a b h = cc

tag_name-is : (name : List ℕ) → is_tag_name name ≡ true → IsTagName name
tag_name-is name h =
    let p = and_parts (nat_le 1 (length name) && nat_le (length name) 240) (list_all is_tag_byte name) h in
    let q = and_parts (nat_le 1 (length name)) (nat_le (length name) 240) p.0 in
    record {
      some = leb-true 1 (length name) q.0;
      short = leb-true (length name) 240 q.1;
      bytes = AllPass-from_list_all is_tag_byte name p.1;
    }

name-is : (name : List ℕ) → is_name name ≡ true → IsName name
name-is name h =
    let p = and_parts (nat_le (length name) 255) (list_all (λ byte. not (byte == 0)) name) h in
    record { short = leb-true (length name) 255 p.0; zero_free = zero_free-from_test name p.1 }

-- A number that was read is a rating.
rating_with-is : (kind number : ℕ) → kind ≤ 6 → number ≤ 4095 → IsRating (rating_with kind number)
rating_with-is kind number small most =
    elim (cases_Bool (number == 0)) [
      | inl none ↦ record { value = most; kind = rw none (omega arith); none = λ e. rw none refl }
      | inr some ↦ record { value = most; kind = rw some small; none = λ e. absurd (eqb-false number 0 some e) }
    ]

rating_edit-is : (side : Colour) (kind number : ℕ) → kind ≤ 6 → number ≤ 4095 → IsEdit (rating_edit side kind number)
rating_edit-is White kind number small most = rating_with-is kind number small most
rating_edit-is Black kind number small most = rating_with-is kind number small most

eco_value-bound : (text : List ℕ) (n : ℕ) → eco_value text ≡ Some n → n ≤ 65500
eco_value-bound text n e =
    elim (cases_Bool (length text == 0)) [
      | inl none ↦ omega (arith, same_Some 0 n (rw none at e))
      | inr some ↦ eco_read-bound text n (rw some at e)
    ]

-- A name that is other than another, the other way round.
turned : (a b : List ℕ) → bytes_eq a b ≡ false → bytes_eq b a ≡ false
turned a b other = false_from_ne_true (bytes_eq b a) (λ same. absurd (true-false ((bytes_eq-Decides a b).1 (sym ((bytes_eq-Decides b a).0 same))) other))
  where
    true-false : {b : Bool} → b ≡ true → b ≡ false → ⊥
    true-false one two = cc

-- The names that are asked for before a rating or an extra tag.
record IsOther (name : List ℕ) : Type 0 where
  event : bytes_eq name (codes "Event") ≡ false
  site : bytes_eq name (codes "Site") ≡ false
  round : bytes_eq name (codes "Round") ≡ false
  white : bytes_eq name (codes "White") ≡ false
  black : bytes_eq name (codes "Black") ≡ false
  date : bytes_eq name (codes "Date") ≡ false
  result : bytes_eq name (codes "Result") ≡ false
  eco : bytes_eq name (codes "ECO") ≡ false
  refused : is_refused name ≡ false

other-free : (name : List ℕ) → IsOther name → rating_of name ≡ None → is_reserved name ≡ false
unfolding is_reserved
other-free name is none =
    let event = turned name (codes "Event") is.event in
    let site = turned name (codes "Site") is.site in
    let round = turned name (codes "Round") is.round in
    let white = turned name (codes "White") is.white in
    let black = turned name (codes "Black") is.black in
    let date = turned name (codes "Date") is.date in
    let result = turned name (codes "Result") is.result in
    rw (event, site, round, white, black, date, result, is.eco, none, is.refused) refl

rating_or_extra-is : (name value : List ℕ) (found : Option (Colour × ℕ)) (e : TagEdit) → rating_of name ≡ found → IsOther name → IsTagName name → IsName value
    → rating_or_extra found name value ≡ Ok e → IsEdit e
rating_or_extra-is name value (Some rating) e read other named text h =
    let (number, (is, made)) = valued-some (rating_edit rating.0 rating.1) (decimal_read 4095 value) e h in
    subst IsEdit made (rating_edit-is rating.0 rating.1 number (rating_of-kind name rating read) (decimal_read-bound 4095 value number is))
rating_or_extra-is name value None e read other named text h =
    subst IsEdit (same_edit (edit.Extra (record { name = name; value = value })) e h)
    (record { name = named; free = other-free name other read; value = text })

dated-is : (make : Date → TagEdit) → ((date : Date) → IsDate date → IsEdit (make date)) → (value : List ℕ) (e : TagEdit) → valued make (date_read value) ≡ Ok e → IsEdit e
dated-is make is value e h =
    let (date, (read, made)) = valued-some make (date_read value) e h in
    subst IsEdit made (is date (date_read-IsDate value date read))

named_edit-IsEdit : (name value : List ℕ) (e : TagEdit) → is_refused name ≡ false → IsTagName name → IsName value → named_edit name value ≡ Ok e → IsEdit e
unfolding named_edit
named_edit-IsEdit name value e refused named text h = elim (cases_Bool (bytes_eq name (codes "Event"))) [
  | inl is ↦ subst IsEdit (same_edit (edit.Event value) e (rw is at h)) text
  | inr n1 ↦ elim (cases_Bool (bytes_eq name (codes "Site"))) [
    | inl is ↦ subst IsEdit (same_edit (edit.Site value) e (rw (n1, is) at h)) text
    | inr n2 ↦ elim (cases_Bool (bytes_eq name (codes "Round"))) [
      | inl is ↦ subst IsEdit (same_edit (edit.Round value) e (rw (n1, n2, is) at h)) text
      | inr n3 ↦ elim (cases_Bool (bytes_eq name (codes "White"))) [
        | inl is ↦ subst IsEdit (same_edit (edit.White value) e (rw (n1, n2, n3, is) at h)) text
        | inr n4 ↦ elim (cases_Bool (bytes_eq name (codes "Black"))) [
          | inl is ↦ subst IsEdit (same_edit (edit.Black value) e (rw (n1, n2, n3, n4, is) at h)) text
          | inr n5 ↦ elim (cases_Bool (bytes_eq name (codes "Date"))) [
            | inl is ↦ dated-is edit.Date (λ date d. d) value e (rw (n1, n2, n3, n4, n5, is) at h)
            | inr n6 ↦ elim (cases_Bool (bytes_eq name (codes "EventDate"))) [
              | inl is ↦ dated-is edit.EventDate (λ date d. d) value e (rw (n1, n2, n3, n4, n5, n6, is) at h)
              | inr n7 ↦ elim (cases_Bool (bytes_eq name (codes "Result"))) [
                | inl is ↦
                    let (outcome, (read, made)) = valued-some edit.Result (outcome_read value) e (rw (n1, n2, n3, n4, n5, n6, n7, is) at h) in
                    subst IsEdit made tt
                | inr n8 ↦ elim (cases_Bool (bytes_eq name (codes "ECO"))) [
                  | inl is ↦
                      let (number, (read, made)) = valued-some edit.Eco (eco_value value) e (rw (n1, n2, n3, n4, n5, n6, n7, n8, is) at h) in
                      subst IsEdit made (eco_value-bound value number read)
                  | inr n9 ↦
                      rating_or_extra-is name value (rating_of name) e refl
                      (record { event = n1; site = n2; round = n3; white = n4; black = n5; date = n6; result = n8; eco = n9; refused = refused })
                      named text (rw (n1, n2, n3, n4, n5, n6, n7, n8, n9) at h)
                ]
              ]
            ]
          ]
        ]
      ]
    ]
  ]
]

pub edit_of-IsEdit : (name value : List ℕ) (e : TagEdit) → edit_of name value ≡ Ok e → IsEdit e
unfolding edit_of
edit_of-IsEdit name value e h =
    elim (cases_Bool (is_refused name)) [
      | inl refused ↦ let wrong = rw refused at h in absurd (cc)
      | inr free ↦ elim (cases_Bool (is_tag_name name)) [
        | inr other ↦ let wrong = rw (free, other) at h in absurd (cc)
        | inl named ↦ elim (cases_Bool (is_name value)) [
          | inr other ↦ let wrong = rw (free, named, other) at h in absurd (cc)
          | inl text ↦ named_edit-IsEdit name value e free (tag_name-is name named) (name-is value text) (rw (free, named, text) at h)
        ]
      ]
    ]

pub ruleset reading = (edit_of-IsEdit)
