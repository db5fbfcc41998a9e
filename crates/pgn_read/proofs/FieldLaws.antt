-- A tag's name is compared once: what it tells answers every later question.
use Rattle.std.proofs.Common.{◌≡◌, ◌≤◌, ◌<◌, ◌==◌, ◌||◌, ℕ, nat_lt, Bool, true, false, List, ◌∷◌, [], Option, None, Some, is_some, get_or, codes, refl, sym, ◌∙◌, subst, arith, inl, inr}
use Rattle.std.specs.List.{list_any}
use Rattle.std.specs.Str.{bytes_eq}
use Rattle.std.proofs.lemmas.Bool.{cases_Bool, true≢false, agree_below, agree_below_at}
use Rattle.std.proofs.lemmas.List.Folds.{list_any-append, list_any_at}
use Rattle.std.proofs.lemmas.Slice.Eq.{bytes_eq-Decides}
use Rattle.cell_core.specs.declared.man.Colour.{Colour}
use Rattle.cell_core.specs.declared.man.Colour.TheVariants.{White, Black}
use Rattle.game_tree.specs.TagName.{is_among, roster_names, refused_names, is_refused, rating_tag, rating_of, is_reserved}
use Rattle.game_tree.proofs.TagNameLemmas.{rating_of-rating_tag}
use Rattle.pgn_read.specs.declared.field.Field.{Field}
use Rattle.pgn_read.specs.declared.field.Field.TheVariants as field
use Rattle.pgn_read.specs.declared.field.Name.{Name}
use Rattle.pgn_read.specs.declared.field.Name.TheVariants as name
use Rattle.pgn_read.specs.Field.{own_names, name_number, name_text, is_roster_name, name_of, IsField, is_own, rating_in}
use Rattle.pgn_read.proofs.NameLaws.{flipped, free_name}

-- ---- names of their own

number_below : (own : Name) → name_number own < 12
number_below name.Event = omega arith
number_below name.Site = omega arith
number_below name.Date = omega arith
number_below name.Round = omega arith
number_below name.White = omega arith
number_below name.Black = omega arith
number_below name.Result = omega arith
number_below name.Eco = omega arith
number_below name.SetUp = omega arith
number_below name.Setup = omega arith
number_below name.Fen = omega arith
number_below name.ScidFlags = omega arith

-- What two tests say of the places of all names they say of each name.
abbrev Agree : (ℕ → Bool) → (ℕ → Bool) → Type 0
Agree f g = agree_below f g 12 ≡ true

at_each : (f g : ℕ → Bool) → Agree f g → (own : Name) → f (name_number own) ≡ g (name_number own)
at_each f g agree own = agree_below_at f g 12 (name_number own) agree (number_below own)

abbrev text_at : ℕ → List ℕ
text_at place = get_or own_names place []

-- No two names are the same.
abbrev IsDistinct : Name → Type 0
IsDistinct own = Agree (λ place. bytes_eq (name_text own) (text_at place)) (λ place. name_number own == place)

all_distinct : (own : Name) → IsDistinct own
all_distinct name.Event = refl
all_distinct name.Site = refl
all_distinct name.Date = refl
all_distinct name.Round = refl
all_distinct name.White = refl
all_distinct name.Black = refl
all_distinct name.Result = refl
all_distinct name.Eco = refl
all_distinct name.SetUp = refl
all_distinct name.Setup = refl
all_distinct name.Fen = refl
all_distinct name.ScidFlags = refl

-- A name that is none of them.
abbrev is_own_name : List ℕ → Bool
is_own_name name = list_any (λ own. bytes_eq own name) own_names

no_own : (name : List ℕ) (own : Name) → is_own_name name ≡ false → bytes_eq name (name_text own) ≡ false
no_own name own none = elim (cases_Bool (bytes_eq (name_text own) name)) [
  | inl same ↦
      absurd (true≢false (sym (list_any_at (λ other. bytes_eq other name) own_names (name_number own) [] (number_below own) same) ∙ none))
  | inr other ↦ flipped (name_text own) name other
]

-- What a comparison that failed tells.
pub differs : (name other own : List ℕ) → false ≡ bytes_eq name other → other ≡ own → bytes_eq own name ≡ false
differs name other own e same = flipped name own (subst (λ text. bytes_eq name text ≡ false) same (sym e))

-- ---- names of ratings

rating_below : (f g : List ℕ → Bool) (side : Colour) (kind : ℕ) → agree_below (λ k. f (rating_tag side k)) (λ k. g (rating_tag side k)) 7 ≡ true
    → kind ≤ 6 → f (rating_tag side kind) ≡ g (rating_tag side kind)
rating_below f g side kind agree small = agree_below_at (λ k. f (rating_tag side k)) (λ k. g (rating_tag side k)) 7 kind agree (omega (arith, small))

rating_is_no_own : (side : Colour) (kind : ℕ) → kind ≤ 6 → is_own_name (rating_tag side kind) ≡ false
unfolding rating_tag
rating_is_no_own White kind small = rating_below is_own_name (λ name. false) White kind refl small
rating_is_no_own Black kind small = rating_below is_own_name (λ name. false) Black kind refl small

-- ---- extra tags

abbrev behind_roster : List (List ℕ)
behind_roster = codes "ECO" ∷ refused_names

or_false : (a b : Bool) → (a || b) ≡ false → (a ≡ false) × (b ≡ false)
or_false true b is = absurd (cc)
or_false false b is = (refl, is)

both_false : (a b : Bool) → a ≡ false → b ≡ false → (a || b) ≡ false
both_false a b first second = rw first second

extra_is_no_own : (name : List ℕ) → is_reserved name ≡ false → is_own_name name ≡ false
extra_is_no_own name free =
    let what = free_name name free in
    list_any-append (λ own. bytes_eq own name) roster_names behind_roster
    ∙ both_false (is_among roster_names name) _ what.no_roster (both_false (bytes_eq (codes "ECO") name) (is_refused name) (flipped name (codes "ECO") what.no_eco) what.no_refused)

-- A name that is neither one of its own nor that of a rating is that of an extra tag.
pub extra_free : (name : List ℕ) → is_own_name name ≡ false → rating_of name ≡ None → is_reserved name ≡ false
unfolding is_reserved
extra_free name own rating =
    let parts = or_false (is_among roster_names name) _ (sym (list_any-append (λ other. bytes_eq other name) roster_names behind_roster) ∙ own) in
    let (eco, refused) = or_false (bytes_eq (codes "ECO") name) (is_refused name) parts.1 in
    rw parts.0 rw (flipped (codes "ECO") name eco) rw rating refused

-- ---- every name

-- Whether a tag has this name.
pub named_by_field : (f : Field) (extra : List ℕ) (own : Name) → IsField f extra → bytes_eq (name_of f extra) (name_text own) ≡ is_own f own
named_by_field (field.Own told) extra own is =
    at_each (λ place. bytes_eq (name_text told) (text_at place)) (λ place. name_number told == place) (all_distinct told) own
named_by_field (field.Rating side kind) extra own is = no_own (rating_tag side kind) own (rating_is_no_own side kind is)
named_by_field field.Extra extra own is = no_own extra own (extra_is_no_own extra is)

pub text_by_field : (f : Field) (extra : List ℕ) (own : Name) → IsField f extra → is_own f own ≡ true → name_of f extra ≡ name_text own
text_by_field f extra own is same = (bytes_eq-Decides (name_of f extra) (name_text own)).0 (named_by_field f extra own is ∙ same)

-- The rating that it names.
no_rating : {A : Type 0} (o : Option A) → is_some o ≡ false → o ≡ None
no_rating None is = refl
no_rating (Some x) is = absurd (cc)

pub rating_by_field : (f : Field) (extra : List ℕ) → IsField f extra → rating_of (name_of f extra) ≡ rating_in f
unfolding rating_of
rating_by_field (field.Own own) extra is =
    no_rating (rating_of (name_text own)) (at_each (λ place. is_some (rating_of (text_at place))) (λ place. false) refl own)
rating_by_field (field.Rating side kind) extra is = rating_of-rating_tag side kind is
rating_by_field field.Extra extra is = no_rating (rating_of extra) (free_name extra is).no_rating

-- Whether it is one of the roster.
rating_is_no_roster : (side : Colour) (kind : ℕ) → kind ≤ 6 → is_among roster_names (rating_tag side kind) ≡ false
unfolding rating_tag
rating_is_no_roster White kind small = rating_below (is_among roster_names) (λ name. false) White kind refl small
rating_is_no_roster Black kind small = rating_below (is_among roster_names) (λ name. false) Black kind refl small

abbrev in_roster : Field → Bool
in_roster (field.Own own) = is_roster_name own
in_roster (field.Rating side kind) = false
in_roster field.Extra = false

pub roster_by_field : (f : Field) (extra : List ℕ) → IsField f extra → is_among roster_names (name_of f extra) ≡ in_roster f
roster_by_field (field.Own own) extra is = at_each (λ place. is_among roster_names (text_at place)) (λ place. nat_lt place 7) refl own
roster_by_field (field.Rating side kind) extra is = rating_is_no_roster side kind is
roster_by_field field.Extra extra is = (free_name extra is).no_roster

-- Whether no extra tag has it.
pub rating_is_reserved : (side : Colour) (kind : ℕ) → kind ≤ 6 → is_reserved (rating_tag side kind) ≡ true
unfolding rating_tag is_reserved rating_of
rating_is_reserved White kind small = rating_below is_reserved (λ name. true) White kind refl small
rating_is_reserved Black kind small = rating_below is_reserved (λ name. true) Black kind refl small

pub own_reserved : (own : Name) → is_reserved (name_text own) ≡ true
unfolding is_reserved rating_of
own_reserved own = at_each (λ place. is_reserved (text_at place)) (λ place. true) refl own
