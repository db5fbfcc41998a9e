-- A settled head is within its bounds, keeps the rule of event dates, and stays as it is when it is settled again.
use Rattle.std.proofs.Common.{◌≡◌, Bool, true, false, List, [], ◌∷◌, ◌++◌, Option, Some, None, IsTrue, refl, sym, ap, ◌∙◌, subst, inl, inr, arith, lit≤}
use Rattle.std.specs.Prelude.{not, All, codes}
use Rattle.std.proofs.lemmas.Bool.{cases_Bool}
use Rattle.std.proofs.lemmas.Option.{same_Some, none-some}
use Rattle.std.proofs.lemmas.List.Elements.{All-filter, All-push, All-from_recursion}
use Rattle.game_tree.specs.Date.{IsDate, unknown_date, is_unknown, is_near, keeps_rule, date_read}
use Rattle.game_tree.specs.TagName.{IsTagName, IsTagByte, rating_of, is_reserved}
use Rattle.game_tree.specs.Head.{IsTag, IsBounded}
use Rattle.game_tree.specs.TagList.{is_named, tags_without}
use Rattle.std.specs.Option.{option_or}
use Rattle.game_tree.specs.Settle.{event_date_name, event_date_tag, near_only, near_date, first_near_date, taken_up, settled}
use Rattle.game_tree.specs.declared.date.Date.{Date}
use Rattle.game_tree.specs.declared.head.Tag.{Tag}
use Rattle.game_tree.specs.declared.head.Head.{Head}
use Rattle.game_tree.proofs.DateLemmas.{date_read-date_text, date_read-IsDate, date_text-IsName}

abbrev is_event_date : Tag → Bool
is_event_date = is_named event_date_name

abbrev other_tags : List Tag → List Tag
other_tags = tags_without event_date_name

pub others_again : (tags : List Tag) → other_tags (other_tags tags) ≡ other_tags tags
others_again [] = refl
others_again (tag ∷ tags) =
    elim (cases_Bool (is_event_date tag)) [
      | inl named ↦ rw named (others_again tags)
      | inr other ↦ rw (other, other) (ap (λ ts. tag ∷ ts) (others_again tags))
    ]

-- Without tags EventDate there is no date to take up.
pub first_near-others : (game : Date) (tags : List Tag) → first_near_date game (other_tags tags) ≡ None
unfolding near_date
first_near-others game [] = refl
first_near-others game (tag ∷ tags) =
    elim (cases_Bool (is_event_date tag)) [
      | inl named ↦ rw named (first_near-others game tags)
      | inr other ↦ rw (other, other) (first_near-others game tags)
    ]

-- A tag EventDate whose text is of a date outside the rule gives no date.
near-tag : (game date : Date) → IsDate date → is_near date game ≡ false → near_date game (event_date_tag date) ≡ None
unfolding near_date
near-tag game date is far = rw (date_read-date_text date is, far) refl

-- A tag of another name gives no date.
near-other : (game : Date) (tag : Tag) → is_event_date tag ≡ false → near_date game tag ≡ None
unfolding near_date
near-other game tag other = rw other refl

first_near-replaced : (game date : Date) (tags : List Tag) → IsDate date → is_near date game ≡ false → first_near_date game (other_tags tags ++ event_date_tag date ∷ []) ≡ None
first_near-replaced game date [] is far = rw (near-tag game date is far) refl
first_near-replaced game date (tag ∷ tags) is far =
    elim (cases_Bool (is_event_date tag)) [
      | inl named ↦ rw named (first_near-replaced game date tags is far)
      | inr other ↦ rw (other, near-other game tag other) (first_near-replaced game date tags is far)
    ]

-- What the tags give is within the rule.
record IsWithin (game date : Date) : Type 0 where
  near : is_near date game ≡ true
  bounded : IsDate date

near_only-within : (game : Date) (read : Option Date) → ((d : Date) → read ≡ Some d → IsDate d) → (date : Date) → near_only game read ≡ Some date → IsWithin game date
near_only-within game None bounded date e = absurd (none-some date e)
near_only-within game (Some d) bounded date e =
    elim (cases_Bool (is_near d game)) [
      | inl near ↦ subst (IsWithin game) (same_Some d date (rw near at e)) (record { near = near; bounded = bounded d refl })
      | inr far ↦ absurd (none-some date (rw far at e))
    ]

near_date-within : (game : Date) (tag : Tag) (date : Date) → near_date game tag ≡ Some date → IsWithin game date
unfolding near_date
near_date-within game tag date e =
    elim (cases_Bool (is_event_date tag)) [
      | inl named ↦ near_only-within game (date_read tag.value) (λ d read. date_read-IsDate tag.value d read) date (rw named at e)
      | inr other ↦ absurd (none-some date (rw other at e))
    ]

first_of-within : (game : Date) (first later : Option Date) → ((d : Date) → first ≡ Some d → IsWithin game d) → ((d : Date) → later ≡ Some d → IsWithin game d) → (date : Date) → option_or first later ≡ Some date → IsWithin game date
first_of-within game None later one two date e = two date e
first_of-within game (Some d) later one two date e = one date e

first_near-within : (game : Date) (tags : List Tag) (date : Date) → first_near_date game tags ≡ Some date → IsWithin game date
first_near-within game [] date e = absurd (none-some date e)
first_near-within game (tag ∷ tags) date e =
    first_of-within game (near_date game tag) (first_near_date game tags) (near_date-within game tag) (first_near-within game tags) date e

-- Settling by its three rules.
pub settled-near : (head : Head) → is_near head.event_date head.date ≡ true → settled head ≡ record head { tags = other_tags head.tags }
unfolding settled
settled-near head near = rw near refl

pub settled-unknown : (head : Head) → is_near head.event_date head.date ≡ false → is_unknown head.event_date ≡ true → settled head ≡ taken_up head (first_near_date head.date head.tags)
unfolding settled
settled-unknown head far unknown = rw (far, unknown) refl

pub settled-far : (head : Head) → is_near head.event_date head.date ≡ false → is_unknown head.event_date ≡ false → settled head ≡ record head { event_date = unknown_date; tags = other_tags head.tags ++ event_date_tag head.event_date ∷ [] }
unfolding settled
settled-far head far known = rw (far, known) refl

-- A date of which the year is unknown is not within the rule.
pub unknown-far : (game : Date) → is_near unknown_date game ≡ false
unknown-far game = refl

-- Settling again.
taken_up-again : (head : Head) → is_near head.event_date head.date ≡ false → is_unknown head.event_date ≡ true → (found : Option Date) → found ≡ first_near_date head.date head.tags → settled (taken_up head found) ≡ taken_up head found
taken_up-again head far unknown None found = settled-unknown head far unknown ∙ ap (taken_up head) (sym found)
taken_up-again head far unknown (Some date) found =
    settled-near (taken_up head (Some date)) (first_near-within head.date head.tags date (sym found)).near
    ∙ ap (λ (ts : List Tag). record head { event_date = date; tags = ts }) (others_again head.tags)

pub settled-settled : (head : Head) → IsBounded head → settled (settled head) ≡ settled head
settled-settled head is =
    elim (cases_Bool (is_near head.event_date head.date)) [
      | inl near ↦
          rw (settled-near head near)
          (settled-near (record head { tags = other_tags head.tags }) near
          ∙ ap (λ (ts : List Tag). record head { tags = ts }) (others_again head.tags))
      | inr far ↦ elim (cases_Bool (is_unknown head.event_date)) [
        | inl unknown ↦
            rw (settled-unknown head far unknown) (taken_up-again head far unknown (first_near_date head.date head.tags) refl)
        | inr known ↦
            let replaced : Head = record head { event_date = unknown_date; tags = other_tags head.tags ++ event_date_tag head.event_date ∷ [] } in
            let none = first_near-replaced head.date head.event_date head.tags is.event_date far in
            rw (settled-far head far known) (settled-unknown replaced (unknown-far head.date) refl ∙ ap (taken_up replaced) none)
      ]
    ]

-- The rule of event dates.
keeps_rule-near : (head : Head) → is_near head.event_date head.date ≡ true → IsTrue (keeps_rule head.event_date head.date)
keeps_rule-near head near =
    elim (cases_Bool (is_unknown head.event_date)) [ inl unknown ↦ rw unknown refl | inr known ↦ rw (known, near) refl ]

keeps_rule-unknown : (head : Head) → is_unknown head.event_date ≡ true → IsTrue (keeps_rule head.event_date head.date)
keeps_rule-unknown head unknown = rw unknown refl

keeps_rule-taken_up : (head : Head) → is_unknown head.event_date ≡ true → (found : Option Date) → ((date : Date) → found ≡ Some date → is_near date head.date ≡ true) → IsTrue (keeps_rule (taken_up head found).event_date (taken_up head found).date)
keeps_rule-taken_up head unknown None near = keeps_rule-unknown head unknown
keeps_rule-taken_up head unknown (Some date) near = keeps_rule-near (taken_up head (Some date)) (near date refl)

pub settled-keeps_rule : (head : Head) → IsTrue (keeps_rule (settled head).event_date (settled head).date)
settled-keeps_rule head =
    elim (cases_Bool (is_near head.event_date head.date)) [
      | inl near ↦ rw (settled-near head near) (keeps_rule-near (record head { tags = other_tags head.tags }) near)
      | inr far ↦ elim (cases_Bool (is_unknown head.event_date)) [
        | inl unknown ↦
            rw (settled-unknown head far unknown)
            (keeps_rule-taken_up head unknown (first_near_date head.date head.tags) (λ date e. (first_near-within head.date head.tags date e).near))
        | inr known ↦
            let replaced : Head = record head { event_date = unknown_date; tags = other_tags head.tags ++ event_date_tag head.event_date ∷ [] } in
            rw (settled-far head far known) (keeps_rule-unknown replaced refl)
      ]
    ]

-- The bounds.
with_date : (head : Head) → IsBounded head → (date : Date) → IsDate date → (tags : List Tag) → All IsTag tags → IsBounded (record head { event_date = date; tags = tags })
with_date head is date dated tags named = record {
  white = is.white;
  black = is.black;
  event = is.event;
  site = is.site;
  round = is.round;
  date = is.date;
  event_date = dated;
  white_rating = is.white_rating;
  black_rating = is.black_rating;
  eco = is.eco;
  marks = is.marks;
  tags = named;
}

event_date-IsTagName : IsTagName (codes "EventDate")
event_date-IsTagName = record {
  some = lit≤ tt;
  short = lit≤ tt;
  bytes = All-from_recursion IsTagByte (codes "EventDate") (refl, (refl, (refl, (refl, (refl, (refl, (refl, (refl, (refl, tt)))))))));
}

event_date_tag-IsTag : (date : Date) → IsTag (event_date_tag date)
unfolding is_reserved rating_of
event_date_tag-IsTag date = record { name = event_date-IsTagName; free = refl; value = date_text-IsName date }

others-tags : (tags : List Tag) → All IsTag tags → All IsTag (other_tags tags)
others-tags tags named = All-filter (λ tag. not (is_event_date tag)) IsTag tags named

bounded-taken_up : (head : Head) → IsBounded head → (found : Option Date) → ((date : Date) → found ≡ Some date → IsDate date) → IsBounded (taken_up head found)
bounded-taken_up head is None dated = is
bounded-taken_up head is (Some date) dated = with_date head is date (dated date refl) (other_tags head.tags) (others-tags head.tags is.tags)

pub settled-IsBounded : (head : Head) → IsBounded head → IsBounded (settled head)
settled-IsBounded head is =
    elim (cases_Bool (is_near head.event_date head.date)) [
      | inl near ↦ rw (settled-near head near) (with_date head is head.event_date is.event_date (other_tags head.tags) (others-tags head.tags is.tags))
      | inr far ↦ elim (cases_Bool (is_unknown head.event_date)) [
        | inl unknown ↦
            rw (settled-unknown head far unknown)
            (bounded-taken_up head is (first_near_date head.date head.tags) (λ date e. (first_near-within head.date head.tags date e).bounded))
        | inr known ↦
            let none_date : IsDate unknown_date = record { year = omega arith; month = omega arith; day = omega arith } in
            let tags : All IsTag (other_tags head.tags ++ event_date_tag head.event_date ∷ []) =
            All-push IsTag (other_tags head.tags) (event_date_tag head.event_date) (others-tags head.tags is.tags) (event_date_tag-IsTag head.event_date) in
            rw (settled-far head far known) (with_date head is unknown_date none_date (other_tags head.tags ++ event_date_tag head.event_date ∷ []) tags)
      ]
    ]

pub ruleset settling = (settled-settled, settled-keeps_rule, settled-IsBounded)
