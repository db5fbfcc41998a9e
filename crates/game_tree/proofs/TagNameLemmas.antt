-- Each name of a rating is that of its side and kind, and no other name is.
use Rattle.std.proofs.Common.{◌≡◌, ℕ, ◌+◌, ◌<◌, ◌≤◌, zero, suc, List, [], ◌∷◌, Option, Some, None, length, get_or, refl, subst, inl, inr, arith}
use Rattle.std.specs.List.{position_from}
use Rattle.std.specs.Option.{option_map, option_or}
use Rattle.std.specs.Str.{bytes_eq}
use Rattle.std.proofs.lemmas.Bool.{cases_Bool}
use Rattle.std.proofs.lemmas.Option.{same_Some, none-some}
use Rattle.std.proofs.lemmas.Slice.Eq.{bytes_eq-Decides}
use Rattle.cell_core.specs.declared.man.Colour.{Colour}
use Rattle.cell_core.specs.declared.man.Colour.TheVariants.{White, Black}
use Rattle.game_tree.specs.TagName.{rating_tags, rating_tag, kind_of, rating_of}

-- Each kind of each side is found under its name.
pub rating_of-rating_tag : (side : Colour) (kind : ℕ) → kind ≤ 6 → rating_of (rating_tag side kind) ≡ Some (side, kind)
unfolding rating_of rating_tag
rating_of-rating_tag White zero small = refl
rating_of-rating_tag White (suc zero) small = refl
rating_of-rating_tag White (suc (suc zero)) small = refl
rating_of-rating_tag White (suc (suc (suc zero))) small = refl
rating_of-rating_tag White (suc (suc (suc (suc zero)))) small = refl
rating_of-rating_tag White (suc (suc (suc (suc (suc zero))))) small = refl
rating_of-rating_tag White (suc (suc (suc (suc (suc (suc zero)))))) small = refl
rating_of-rating_tag White (suc (suc (suc (suc (suc (suc (suc n))))))) small = absurd (omega arith)
rating_of-rating_tag Black zero small = refl
rating_of-rating_tag Black (suc zero) small = refl
rating_of-rating_tag Black (suc (suc zero)) small = refl
rating_of-rating_tag Black (suc (suc (suc zero))) small = refl
rating_of-rating_tag Black (suc (suc (suc (suc zero)))) small = refl
rating_of-rating_tag Black (suc (suc (suc (suc (suc zero))))) small = refl
rating_of-rating_tag Black (suc (suc (suc (suc (suc (suc zero)))))) small = refl
rating_of-rating_tag Black (suc (suc (suc (suc (suc (suc (suc n))))))) small = absurd (omega arith)

-- A search that goes on behind the first names, of which none was it.
pub record IsNext {A : Type 0} (search_from : ℕ → List A → Option ℕ) (names rest : List A) (index place : ℕ) : Type 0 where
  pub place_is : place ≡ index
  pub goes_on : search_from place rest ≡ search_from 0 names

-- The name at the place that was found.
found-at : (names : List (List ℕ)) (name : List ℕ) (start place : ℕ) → position_from (λ other. bytes_eq other name) start names ≡ Some place
    → (k : ℕ) × ((place ≡ start + k) × ((k < length names) × (get_or names k [] ≡ name)))
found-at [] name start place e = absurd (none-some place e)
found-at (first ∷ names) name start place e =
    elim (cases_Bool (bytes_eq first name)) [
      | inl same ↦ (0, (omega (arith, same_Some start place (rw same at e)), (omega arith, (bytes_eq-Decides first name).0 same)))
      | inr other ↦
          let (k, (is, (below, at))) = found-at names name (start + 1) place (rw other at e) in
          (suc k, (omega arith, (omega arith, at)))
    ]

-- What a name of a rating is.
pub record IsRatingTag (name : List ℕ) (rating : Colour × ℕ) : Type 0 where
  pub kind : rating.1 ≤ 6
  pub text : rating_tag rating.0 rating.1 ≡ name

kind-is : (side : Colour) (name : List ℕ) (kind : ℕ) → length (rating_tags side) ≡ 7 → kind_of side name ≡ Some kind → IsRatingTag name (side, kind)
unfolding rating_tag
kind-is side name kind seven e =
    let (k, (is, (below, at))) = found-at (rating_tags side) name 0 kind e in
    let same : k ≡ kind = omega arith in
    record { kind = omega arith; text = subst (λ n. get_or (rating_tags side) n [] ≡ name) same at }

side-is : (name : List ℕ) (white black : Option ℕ) (rating : Colour × ℕ) → kind_of White name ≡ white → kind_of Black name ≡ black
    → option_or (option_map (λ kind. (White, kind)) white) (option_map (λ kind. (Black, kind)) black) ≡ Some rating → IsRatingTag name rating
side-is name (Some kind) black rating one two e = subst (IsRatingTag name) (same_Some _ _ e) (kind-is White name kind refl one)
side-is name None (Some kind) rating one two e = subst (IsRatingTag name) (same_Some _ _ e) (kind-is Black name kind refl two)
side-is name None None rating one two e = absurd (none-some rating e)

pub rating_of-is : (name : List ℕ) (rating : Colour × ℕ) → rating_of name ≡ Some rating → IsRatingTag name rating
unfolding rating_of
rating_of-is name rating e = side-is name (kind_of White name) (kind_of Black name) rating refl refl e

pub rating_of-kind : (name : List ℕ) (rating : Colour × ℕ) → rating_of name ≡ Some rating → rating.1 ≤ 6
rating_of-kind name rating e = (rating_of-is name rating e).kind

pub rating_tag-rating_of : (name : List ℕ) (rating : Colour × ℕ) → rating_of name ≡ Some rating → rating_tag rating.0 rating.1 ≡ name
rating_tag-rating_of name rating e = (rating_of-is name rating e).text

pub ruleset naming = (rating_of-rating_tag, rating_of-kind, rating_tag-rating_of)
