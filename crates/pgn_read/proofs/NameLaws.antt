-- What the names of ratings and of extra tags are not.
use Rattle.std.proofs.Common.{◌≡◌, ◌≤◌, ◌||◌, ◌&&◌, ℕ, Bool, true, false, not, List, codes, is_some, refl, sym, ◌∙◌, arith, inl, inr}
use Rattle.std.specs.Str.{bytes_eq}
use Rattle.std.proofs.lemmas.Bool.{cases_Bool, and_parts, true≢false, not-true, agree_below, agree_below_at}
use Rattle.std.proofs.lemmas.Slice.Eq.{bytes_eq-Decides}
use Rattle.cell_core.specs.declared.man.Colour.{Colour}
use Rattle.cell_core.specs.declared.man.Colour.TheVariants.{White, Black}
use Rattle.game_tree.specs.TagName.{is_among, roster_names, is_refused, rating_tag, rating_of, is_reserved, is_tag_name}

-- ---- names of ratings

-- What the name of a rating is and is not.
pub record IsRatingName (name : List ℕ) : Type 0 where
  pub reserved : is_reserved name ≡ true
  pub no_roster : is_among roster_names name ≡ false
  pub no_fen : bytes_eq name (codes "FEN") ≡ false
  pub no_eco : bytes_eq name (codes "ECO") ≡ false
  pub no_flags : bytes_eq name (codes "ScidFlags") ≡ false
  pub tag_name : is_tag_name name ≡ true

is_good : List ℕ → Bool
is_good name =
    is_reserved name && (not (is_among roster_names name) && (not (bytes_eq name (codes "FEN"))
    && (not (bytes_eq name (codes "ECO")) && (not (bytes_eq name (codes "ScidFlags")) && is_tag_name name))))

good_name : (name : List ℕ) → is_good name ≡ true → IsRatingName name
unfolding is_good
good_name name is =
    let a = and_parts (is_reserved name) _ is in
    let b = and_parts (not (is_among roster_names name)) _ a.1 in
    let c = and_parts (not (bytes_eq name (codes "FEN"))) _ b.1 in
    let d = and_parts (not (bytes_eq name (codes "ECO"))) _ c.1 in
    let e = and_parts (not (bytes_eq name (codes "ScidFlags"))) (is_tag_name name) d.1 in
    record {
      reserved = a.0;
      no_roster = not-true (is_among roster_names name) b.0;
      no_fen = not-true (bytes_eq name (codes "FEN")) c.0;
      no_eco = not-true (bytes_eq name (codes "ECO")) d.0;
      no_flags = not-true (bytes_eq name (codes "ScidFlags")) e.0;
      tag_name = e.1;
    }

all_good : (side : Colour) → agree_below (λ k. is_good (rating_tag side k)) (λ k. true) 7 ≡ true
unfolding is_good rating_tag is_reserved rating_of
all_good White = refl
all_good Black = refl

pub rating_name : (side : Colour) (kind : ℕ) → kind ≤ 6 → IsRatingName (rating_tag side kind)
rating_name side kind small =
    good_name (rating_tag side kind)
    (agree_below_at (λ k. is_good (rating_tag side k)) (λ k. true) 7 kind (all_good side) (omega (arith, small)))

-- ---- names of other tags

-- What a name that is not reserved is not.
pub record IsFreeName (name : List ℕ) : Type 0 where
  pub no_roster : is_among roster_names name ≡ false
  pub no_eco : bytes_eq name (codes "ECO") ≡ false
  pub no_rating : is_some (rating_of name) ≡ false
  pub no_refused : is_refused name ≡ false

four : (a b c d : Bool) → (a || b || c || d) ≡ false → (a ≡ false) × ((b ≡ false) × ((c ≡ false) × (d ≡ false)))
four true b c d e = absurd (cc)
four false true c d e = absurd (cc)
four false false true d e = absurd (cc)
four false false false true e = absurd (cc)
four false false false false e = (refl, (refl, (refl, refl)))

pub free_name : (name : List ℕ) → is_reserved name ≡ false → IsFreeName name
unfolding is_reserved
free_name name is =
    let parts = four (is_among roster_names name) (bytes_eq name (codes "ECO")) (is_some (rating_of name)) (is_refused name) is in
    record { no_roster = parts.0; no_eco = parts.1.0; no_rating = parts.1.1.0; no_refused = parts.1.1.1 }

refused_four : (a b c d : Bool) → (a || (b || (c || (d || false)))) ≡ false → (a ≡ false) × ((b ≡ false) × ((c ≡ false) × (d ≡ false)))
refused_four true b c d e = absurd (cc)
refused_four false true c d e = absurd (cc)
refused_four false false true d e = absurd (cc)
refused_four false false false true e = absurd (cc)
refused_four false false false false e = (refl, (refl, (refl, refl)))

pub flipped : (a b : List ℕ) → bytes_eq a b ≡ false → bytes_eq b a ≡ false
flipped a b e = elim (cases_Bool (bytes_eq b a)) [
  | inl is ↦ absurd (true≢false (sym ((bytes_eq-Decides a b).1 (sym ((bytes_eq-Decides b a).0 is))) ∙ e))
  | inr other ↦ other
]

pub no_fen_name : (name : List ℕ) → is_refused name ≡ false → bytes_eq name (codes "FEN") ≡ false
no_fen_name name is =
    flipped (codes "FEN") name
    (refused_four (bytes_eq (codes "SetUp") name) (bytes_eq (codes "Setup") name) (bytes_eq (codes "FEN") name) (bytes_eq (codes "ScidFlags") name) is).1.1.0

pub no_flags_name : (name : List ℕ) → is_refused name ≡ false → bytes_eq name (codes "ScidFlags") ≡ false
no_flags_name name is =
    flipped (codes "ScidFlags") name
    (refused_four (bytes_eq (codes "SetUp") name) (bytes_eq (codes "Setup") name) (bytes_eq (codes "FEN") name) (bytes_eq (codes "ScidFlags") name) is).1.1.1
