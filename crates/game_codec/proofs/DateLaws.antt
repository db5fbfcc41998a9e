-- The first event date of a record's tags, tag by tag.
use Rattle.std.proofs.Common.{◌≡◌, ℕ, Bool, true, false, cond, not, List, [], ◌∷◌, Option, Some, None, is_some, Ok, Err, codes, drop, refl, sym, ap, subst, ◌∙◌}
use Rattle.std.proofs.lemmas.Slice.Eq.{bytes_eq-Decides}
use Rattle.game_tree.specs.Date.{date_read}
use Rattle.game_tree.specs.Game.{GameTree}
use Rattle.std.specs.Option.{option_or}
use Rattle.game_tree.specs.Settle.{event_date_name, first_near_date, near_date, near_only}
use Rattle.game_tree.specs.TagList.{is_named}
use Rattle.game_tree.specs.TagName.{free_of, is_reserved, rating_of}
use Rattle.game_tree.specs.declared.date.Date.{Date}
use Rattle.game_tree.specs.declared.head.Tag.{Tag}
use Rattle.game_codec.specs.Record.{IsRecord}
use Rattle.game_codec.specs.TagDates.{IsTagDate}
use Rattle.game_codec.specs.TagReading.{tag_at, BeginsTag, BeginsTags}
use Rattle.game_codec.specs.declared.fault.RecordWhat.{RecordWhat}
use Rattle.game_codec.proofs.RecordAnswerLaws.{to_spelled}
use Rattle.game_codec.proofs.TagLaws.{BeginsTags-one, BeginsTags-unbroken}
use Rattle.game_codec.proofs.TagReadingLaws.{BeginsTag-one, end-tag_at, tag_at-end}

-- No tag EventDate has a reserved name.
event_date_free : is_reserved (codes "EventDate") ≡ false
unfolding is_reserved rating_of
event_date_free = refl

no : false ≡ true → ⊥
no e = absurd cc

near_named : (game : Date) (tag : Tag) (test : Bool) → is_named event_date_name tag ≡ test → test ≡ false → near_date game tag ≡ None
unfolding near_date
near_named game tag test is off = ap (λ (b : Bool). cond b (near_only game (date_read tag.value)) None) (is ∙ off)

by_name : (tag : Tag) → is_named event_date_name tag ≡ true → is_reserved tag.name ≡ false
by_name tag named = ap is_reserved ((bytes_eq-Decides tag.name event_date_name).0 named) ∙ event_date_free

reserved_none : (game : Date) (tag : Tag) (named : Bool) → is_named event_date_name tag ≡ named → is_reserved tag.name ≡ true → near_date game tag ≡ None
reserved_none game tag true is reserved = absurd (no (sym (by_name tag is) ∙ reserved))
reserved_none game tag false is reserved = near_named game tag false is refl

-- Tags of reserved names give none.
put : (game : Date) (tag : Tag) (tags : List Tag) (reserved : Bool) → is_reserved tag.name ≡ reserved → first_near_date game (free_of tags) ≡ first_near_date game tags
    → first_near_date game (cond (not reserved) (tag ∷ free_of tags) (free_of tags)) ≡ first_near_date game (tag ∷ tags)
put game tag tags true is on =
    on ∙ sym (ap (λ (o : Option Date). option_or o (first_near_date game tags)) (reserved_none game tag (is_named event_date_name tag) refl is))
put game tag tags false is on = ap (option_or (near_date game tag)) on

pub free_dates : (game : Date) (tags : List Tag) → first_near_date game (free_of tags) ≡ first_near_date game tags
free_dates game [] = refl
free_dates game (tag ∷ tags) =
    ap (λ (b : Bool). first_near_date game (cond (not b) (tag ∷ free_of tags) (free_of tags))) refl
    ∙ put game tag tags (is_reserved tag.name) refl (free_dates game tags)

-- Whatever tags the bytes begin with, these are left, and the first date of these is the first of all.
abbrev pub DatesFrom : Date → List ℕ → List ℕ → Type 0
DatesFrom game bytes rest =
    (tags : List Tag) (behind : List ℕ) → BeginsTags bytes tags behind
    → (later : List Tag) × (BeginsTags rest later behind × (first_near_date game tags ≡ first_near_date game later))

pub dates_begin : (game : Date) (bytes : List ℕ) → DatesFrom game bytes bytes
dates_begin game bytes = λ tags behind begins. (tags, (begins, refl))

-- The tags begin with this one.
record StartsWith (tag : Tag) (later : List ℕ) (tags : List Tag) (behind : List ℕ) : Type 0 where
  others : List Tag
  are : tags ≡ tag ∷ others
  begins : BeginsTags later others behind

starts : (bytes : List ℕ) (tag : Tag) (later : List ℕ) (tags : List Tag) (behind : List ℕ) → BeginsTag bytes tag later → BeginsTags bytes tags behind
    → StartsWith tag later tags behind
starts bytes tag later [] behind begins ends =
    let none = ap tag_at ends ∙ tag_at-end behind in
    absurd (cc)
starts bytes tag later (first ∷ others) behind begins all =
    let same = BeginsTag-one bytes first tag all.0 later all.1 begins in
    record {
      others = others;
      are = ap (λ (t : Tag). t ∷ others) same.0;
      begins = subst (λ (l : List ℕ). BeginsTags l others behind) same.1 all.2;
    }

none_is : (o : Option Date) → is_some o ≡ false → o ≡ None
none_is None e = refl
none_is (Some date) e = absurd (no (sym e))

some_first : (o later : Option Date) → is_some o ≡ true → option_or o later ≡ o
some_first None later e = absurd (no e)
some_first (Some date) later e = refl

pub dates_more : (game : Date) (bytes rest later : List ℕ) (used : ℕ) (date : Option Date) → IsTagDate game rest date used → is_some date ≡ false
    → later ≡ drop used rest → DatesFrom game bytes rest → DatesFrom game bytes later
dates_more game bytes rest later used date is none later_is from = λ tags behind begins.
    let on = from tags behind begins in
    let split = starts rest is.tag (drop used rest) on.0 behind is.begins on.1.0 in (
      split.others,
      (
        subst (λ (l : List ℕ). BeginsTags l split.others behind) (sym later_is) split.begins,
        on.1.1
            ∙ ap (first_near_date game) split.are
            ∙ ap (λ (o : Option Date). option_or o (first_near_date game split.others)) (sym is.date_is ∙ none_is date none),
      ),
    )

pub dates_found : (game : Date) (bytes rest : List ℕ) (used : ℕ) (date : Option Date) → IsTagDate game rest date used → is_some date ≡ true
    → DatesFrom game bytes rest → (tags : List Tag) (tree : GameTree) → IsRecord bytes tags tree → date ≡ first_near_date game tags
dates_found game bytes rest used date is some from tags tree read =
    let r = to_spelled bytes tags tree read in
    let on = from r.all_tags r.behind_tags r.tags_first in
    let split = starts rest is.tag (drop used rest) on.0 r.behind_tags is.begins on.1.0 in
    sym (some_first date (first_near_date game split.others) some)
    ∙ ap (λ (o : Option Date). option_or o (first_near_date game split.others)) is.date_is
    ∙ sym (ap (first_near_date game) split.are)
    ∙ sym on.1.1
    ∙ sym (free_dates game r.all_tags)
    ∙ ap (first_near_date game) (sym r.tags_are)

pub dates_none : (game : Date) (bytes rest : List ℕ) → ((tags : List Tag) (behind : List ℕ) → BeginsTags rest tags behind → tags ≡ [])
    → DatesFrom game bytes rest → (tags : List Tag) (tree : GameTree) → IsRecord bytes tags tree → None ≡ first_near_date game tags
dates_none game bytes rest none from tags tree read =
    let r = to_spelled bytes tags tree read in
    let on = from r.all_tags r.behind_tags r.tags_first in
    sym (ap (first_near_date game) (none on.0 r.behind_tags on.1.0))
    ∙ sym on.1.1
    ∙ sym (free_dates game r.all_tags)
    ∙ ap (first_near_date game) (sym r.tags_are)

-- There is no next tag.
pub ends_here : (bytes : List ℕ) → tag_at bytes ≡ Ok None → (tags : List Tag) (behind : List ℕ) → BeginsTags bytes tags behind → tags ≡ []
ends_here bytes none tags behind begins =
    let rest = end-tag_at bytes none in
    (BeginsTags-one bytes tags [] behind rest.0 begins rest.1).0

pub broken_here : (bytes : List ℕ) (what : RecordWhat) → tag_at bytes ≡ Err what → (tags : List Tag) (behind : List ℕ) → BeginsTags bytes tags behind → tags ≡ []
broken_here bytes what fault tags behind begins = absurd (BeginsTags-unbroken bytes tags [] behind bytes what begins (refl, fault))
