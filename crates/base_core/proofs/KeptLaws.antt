-- What is kept of an entry says the same game, with its event date settled.
use Rattle.std.proofs.Common.{◌≡◌, ◌≤◌, ℕ, Bool, true, false, List, [], ◌∷◌, Option, Some, None, IsTrue, ◌||◌, true≢false, if◌then◌else◌, refl, sym, ap, ◌∙◌, subst, inl, inr, arith}
use Rattle.std.proofs.lemmas.Bool.{cases_Bool}
use Rattle.std.proofs.lemmas.Option.{same_Some, none-some}
use Rattle.game_tree.specs.Date.{IsDate, is_near, is_unknown, unknown_date, keeps_rule, date_read}
use Rattle.game_tree.specs.Head.{without_tags}
use Rattle.game_tree.specs.TagList.{is_named}
use Rattle.std.specs.Option.{option_or}
use Rattle.game_tree.specs.Settle.{event_date_name, near_only, near_date, first_near_date, taken_up, settled}
use Rattle.game_tree.specs.declared.date.Date.{Date}
use Rattle.game_tree.specs.declared.head.Head.{Head}
use Rattle.game_tree.specs.declared.head.Tag.{Tag}
use Rattle.game_tree.proofs.SettleLemmas.{settled-near, settled-unknown, settled-far}
use Rattle.index_entry.specs.Entry.{IsEntry}
use Rattle.index_entry.specs.declared.entry.Entry.{Entry}
use Rattle.name_base.specs.NameLists.{NameLists}
use Rattle.sig_index.specs.Signature.{IsSigBounded}
use Rattle.sig_index.specs.declared.signature.Sig.{Sig}
use Rattle.base_core.specs.Entries.{HasNames, head_of}
use Rattle.base_core.specs.FirstFault.{place_fault}
use Rattle.base_core.specs.Represents.{IsKept}
use Rattle.base_core.specs.Reading.{kept_entry}

-- A date that a tag gives is within the rule.
near_only-near : (game : Date) (read : Option Date) (date : Date) → near_only game read ≡ Some date → is_near date game ≡ true
near_only-near game None date e = absurd (none-some date e)
near_only-near game (Some d) date e =
    elim (cases_Bool (is_near d game)) [
      | inl near ↦ subst (λ (x : Date). is_near x game ≡ true) (same_Some d date (rw near at e)) near
      | inr far ↦ absurd (none-some date (rw far at e))
    ]

near_date-near : (game : Date) (tag : Tag) (date : Date) → near_date game tag ≡ Some date → is_near date game ≡ true
unfolding near_date
near_date-near game tag date e =
    elim (cases_Bool (is_named event_date_name tag)) [
      | inl named ↦ near_only-near game (date_read tag.value) date (rw named at e)
      | inr other ↦ absurd (none-some date (rw other at e))
    ]

first_of-near : (game : Date) (first later : Option Date) (date : Date) → ((d : Date) → first ≡ Some d → is_near d game ≡ true) → ((d : Date) → later ≡ Some d → is_near d game ≡ true) →
    option_or first later ≡ Some date → is_near date game ≡ true
first_of-near game None later date one two e = two date e
first_of-near game (Some d) later date one two e = one date e

first_near-near : (game : Date) (tags : List Tag) (date : Date) → first_near_date game tags ≡ Some date → is_near date game ≡ true
first_near-near game [] date e = absurd (none-some date e)
first_near-near game (tag ∷ tags) date e =
    first_of-near game (near_date game tag) (first_near_date game tags) date (near_date-near game tag) (first_near-near game tags) e

-- The head with the event date of the settled head.
abbrev dated : Head → Date → Head
dated head date = record head { event_date = date }

-- Where an unknown event date is taken up from the tags, so it is again.
taken_up-dated : (head : Head) (found : Option Date) → is_near head.event_date head.date ≡ false → is_unknown head.event_date ≡ true → found ≡ first_near_date head.date head.tags →
    settled (dated head (taken_up head found).event_date) ≡ taken_up head found
taken_up-dated head None far unknown found = settled-unknown head far unknown ∙ ap (taken_up head) (sym found)
taken_up-dated head (Some date) far unknown found = settled-near (dated head date) (first_near-near head.date head.tags date (sym found))

neither : (a b : Bool) → a ≡ false → b ≡ false → IsTrue (a || b) → ⊥
neither a b first second both = true≢false (sym both ∙ rw (first, second) refl)

-- A head whose event date keeps the rule, settled with the event date that settling gives it, is the settled head.
pub settled-dated : (head : Head) → IsTrue (keeps_rule head.event_date head.date) → settled (record head { event_date = (settled head).event_date }) ≡ settled head
settled-dated head rule =
    elim (cases_Bool (is_near head.event_date head.date)) [
      | inl near ↦ rw (settled-near head near) (settled-near head near)
      | inr far ↦ elim (cases_Bool (is_unknown head.event_date)) [
        | inl unknown ↦ rw (settled-unknown head far unknown) (taken_up-dated head (first_near_date head.date head.tags) far unknown refl)
        | inr known ↦ absurd (neither _ _ known far rule)
      ]
    ]

-- The event date of a settled head, by the dates and the tags alone.
abbrev pub found_or : Date → Option Date → Date
found_or event None = event
found_or event (Some date) = date

taken_up-date : (head : Head) (found : Option Date) → (taken_up head found).event_date ≡ found_or head.event_date found
taken_up-date head None = refl
taken_up-date head (Some date) = refl

abbrev settled_event : Date → Date → List Tag → Date
settled_event date event tags = if is_near event date then event else if is_unknown event then found_or event (first_near_date date tags) else unknown_date

settled_event-is : (head : Head) → (settled head).event_date ≡ settled_event head.date head.event_date head.tags
settled_event-is head =
    elim (cases_Bool (is_near head.event_date head.date)) [
      | inl near ↦ rw (settled-near head near, near) refl
      | inr far ↦ elim (cases_Bool (is_unknown head.event_date)) [
        | inl unknown ↦ rw (settled-unknown head far unknown, far, unknown) (taken_up-date head (first_near_date head.date head.tags))
        | inr known ↦ rw (settled-far head far known, far, known) refl
      ]
    ]

-- That of an entry's head: the entry's own within the rule, and else the first of the tags.
pub event_date-near : (names : NameLists) (e : Entry) (tags : List Tag) → is_near e.event_date e.date ≡ true → (settled (head_of names e tags)).event_date ≡ e.event_date
unfolding head_of
event_date-near names e tags near = settled_event-is (head_of names e tags) ∙ rw near refl

pub event_date-found : (names : NameLists) (e : Entry) (tags : List Tag) (found : Option Date) (date : Date) → is_near e.event_date e.date ≡ false
    → IsTrue (keeps_rule e.event_date e.date) → found ≡ first_near_date e.date tags → found_or e.event_date found ≡ date
    → (settled (head_of names e tags)).event_date ≡ date
unfolding head_of
event_date-found names e tags found date far rule is date_is =
    elim (cases_Bool (is_unknown e.event_date)) [
      | inl unknown ↦ settled_event-is (head_of names e tags) ∙ rw (far, unknown) (ap (found_or e.event_date) (sym is) ∙ date_is)
      | inr known ↦ absurd (neither _ _ known far rule)
    ]

-- The head of what is kept of an entry, settled, is the settled head of the entry.
pub settled_kept : (names : NameLists) (e : Entry) (s : Sig) (date : Date) (tags : List Tag) → IsTrue (keeps_rule e.event_date e.date) → (settled (head_of names e tags)).event_date ≡ date →
    settled (head_of names (kept_entry e s date) tags) ≡ settled (head_of names e tags)
unfolding head_of kept_entry
settled_kept names e s date tags rule is =
    let P : Date → Type 0 = λ d. settled (head_of names (kept_entry e s d) tags) ≡ settled (head_of names e tags) in
    subst P is (settled-dated (head_of names e tags) rule)

-- Settling changes the event date and the tags alone.
taken_up-rest : (head : Head) (found : Option Date) → without_tags (taken_up head found) ≡ record head { event_date = (taken_up head found).event_date; tags = [] }
taken_up-rest head None = refl
taken_up-rest head (Some date) = refl

pub settled-rest : (head : Head) → without_tags (settled head) ≡ record head { event_date = (settled head).event_date; tags = [] }
settled-rest head =
    elim (cases_Bool (is_near head.event_date head.date)) [
      | inl near ↦ rw (settled-near head near) refl
      | inr far ↦ elim (cases_Bool (is_unknown head.event_date)) [
        | inl unknown ↦ rw (settled-unknown head far unknown) (taken_up-rest head (first_near_date head.date head.tags))
        | inr known ↦ rw (settled-far head far known) refl
      ]
    ]

-- What is kept of an entry is within the ranges of an entry.
pub kept-IsEntry : (e : Entry) (s : Sig) (date : Date) → IsEntry e → IsSigBounded s → IsDate date → IsTrue (keeps_rule date e.date) → IsEntry (kept_entry e s date)
unfolding kept_entry
kept-IsEntry e s date is small dated rule = record {
  len = is.len;
  marks = is.marks;
  white = is.white;
  black = is.black;
  event = is.event;
  site = is.site;
  round = is.round;
  vars = small.vars;
  comments = small.comments;
  nags = small.nags;
  eco = is.eco;
  date = is.date;
  event_date = dated;
  event_rule = rule;
  white_rating = is.white_rating;
  black_rating = is.black_rating;
  material = small.material;
  plies = omega (arith, small.plies);
  home_count = omega (arith, small.home_count);
  home = small.home;
}

-- What is kept of an entry that passed its checks.
pub is-kept : (names : NameLists) (end : ℕ) (e kept : Entry) (s : Sig) (date : Date) → kept ≡ kept_entry e s date → HasNames names e → place_fault end e ≡ None → IsEntry kept → kept.home_count ≤ 16 → IsKept names end kept
unfolding kept_entry place_fault
is-kept names end e kept s date is has placed fields homes =
    let named : HasNames names (kept_entry e s date) = record { white = has.white; black = has.black; event = has.event; site = has.site; round = has.round } in
    let within : place_fault end (kept_entry e s date) ≡ None = placed in
    record {
      fields = fields;
      named = subst (λ (x : Entry). HasNames names x) (sym is) named;
      placed = subst (λ (x : Entry). place_fault end x ≡ None) (sym is) within;
      homes = homes;
    }

-- Settling leaves the game's date.
pub settled-date : (head : Head) → (settled head).date ≡ head.date
settled-date head = ap (λ (h : Head). h.date) (settled-rest head)

pub head-date : (names : NameLists) (e : Entry) (tags : List Tag) → (head_of names e tags).date ≡ e.date
unfolding head_of
head-date names e tags = refl

pub kept-homes : (e : Entry) (s : Sig) (date : Date) → s.home.count ≤ 16 → (kept_entry e s date).home_count ≤ 16
unfolding kept_entry
kept-homes e s date few = few
