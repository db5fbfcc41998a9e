-- Setting a tag by the place of the first of its name.
use Rattle.std.proofs.Common.{◌≡◌, ℕ, ◌+◌, ◌<◌, suc, List, [], ◌∷◌, ◌++◌, Some, None, length, set, refl, sym, ap, subst, inl, inr, arith}
use Rattle.std.specs.List.{position_from}
use Rattle.std.proofs.lemmas.Bool.{cases_Bool}
use Rattle.std.proofs.lemmas.Option.{same_Some, none-some}
use Rattle.game_tree.specs.TagList.{is_named, put_tag}
use Rattle.game_tree.specs.declared.head.Tag.{Tag}

-- What a place that was found says of the tags after one is put.
record IsPut (tag : Tag) (tags : List Tag) (start place : ℕ) : Type 0 where
  from_start : ℕ
  is : place ≡ start + from_start
  below : from_start < length tags
  put : put_tag tag tags ≡ set tags from_start tag

put-from : (tag : Tag) (tags : List Tag) (start place : ℕ) → position_from (is_named tag.name) start tags ≡ Some place → IsPut tag tags start place
put-from tag [] start place e = absurd (none-some place e)
put-from tag (first ∷ tags) start place e =
    elim (cases_Bool (is_named tag.name first)) [
      | inl same ↦ record { from_start = 0; is = omega (arith, same_Some start place (rw same at e)); below = omega arith; put = rw same refl }
      | inr other ↦
          let found = put-from tag tags (start + 1) place (rw other at e) in
          let is = found.is in
          let below = found.below in
          record {
            from_start = suc found.from_start;
            is = omega arith;
            below = omega arith;
            put = rw other (ap (λ (ts : List Tag). first ∷ ts) found.put);
          }
    ]

pub put_at : (tag : Tag) (tags : List Tag) (place : ℕ) → position_from (is_named tag.name) 0 tags ≡ Some place → set tags place tag ≡ put_tag tag tags
put_at tag tags place e =
    let found = put-from tag tags 0 place e in
    let same : found.from_start ≡ place = let is = found.is in omega arith in
    sym (subst (λ (n : ℕ). put_tag tag tags ≡ set tags n tag) same found.put)

pub place_below : (tag : Tag) (tags : List Tag) (place : ℕ) → position_from (is_named tag.name) 0 tags ≡ Some place → place < length tags
place_below tag tags place e =
    let found = put-from tag tags 0 place e in
    let is = found.is in
    let below = found.below in
    omega arith

put-last : (tag : Tag) (tags : List Tag) (start : ℕ) → position_from (is_named tag.name) start tags ≡ None → put_tag tag tags ≡ tags ++ tag ∷ []
put-last tag [] start e = refl
put-last tag (first ∷ tags) start e =
    elim (cases_Bool (is_named tag.name first)) [
      | inl same ↦ absurd (none-some start (sym (rw same at e)))
      | inr other ↦ rw other (ap (λ (ts : List Tag). first ∷ ts) (put-last tag tags (start + 1) (rw other at e)))
    ]

pub put_last : (tag : Tag) (tags : List Tag) → position_from (is_named tag.name) 0 tags ≡ None → put_tag tag tags ≡ tags ++ tag ∷ []
put_last tag tags e = put-last tag tags 0 e

pub ruleset putting = (put_at, place_below, put_last)
