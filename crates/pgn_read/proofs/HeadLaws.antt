-- The head of read tags is within its bounds.
use Rattle.std.proofs.Common.{◌≡◌, ◌||◌, ℕ, Bool, true, false, List, [], ◌∷◌, ◌++◌, All, codes, rules, inl, inr, refl, sym, ◌∙◌}
use Rattle.std.proofs.lemmas.Bool.{cases_Bool}
use Rattle.std.proofs.lemmas.List.Elements.{All-cons, All-head, All-push, All-tail}
use Rattle.game_tree.specs.declared.head.Tag.{Tag}
use Rattle.game_tree.specs.Head.{IsTag}
use Rattle.game_tree.specs.TagName.{is_reserved, free_of}
use Rattle.game_tree.specs.TagList.{is_named}
use Rattle.pgn_read.specs.Heads.{IsReadTag}
use Rattle.pgn_read.specs.Reading.{has_tag}

-- A read tag whose name is free is an extra tag.
free_is_tag : (tag : Tag) → IsReadTag tag → is_reserved tag.name ≡ false → IsTag tag
free_is_tag tag read free = record { name = read.name; free = free; value = read.value }

pub free_are_tags : (tags : List Tag) → All IsReadTag tags → All IsTag (free_of tags)
free_are_tags [] read = search rules
free_are_tags (tag ∷ tags) read =
    elim (cases_Bool (is_reserved tag.name)) [
      | inl taken ↦ rw taken (free_are_tags tags (All-tail IsReadTag tag tags read))
      | inr free ↦
          rw free (All-cons IsTag tag (free_of tags) (free_is_tag tag (All-head IsReadTag tag tags read) free)
          (free_are_tags tags (All-tail IsReadTag tag tags read)))
    ]

-- One more read tag.
pub pushed_read : (tags : List Tag) (tag : Tag) → All IsReadTag tags → IsReadTag tag → All IsReadTag (tags ++ tag ∷ [])
pushed_read tags tag read one = All-push IsReadTag tags tag read one

-- Whether one of the tags is a FEN tag, with one more of them.
or_none : (b : Bool) → (b || false) ≡ (false || b)
or_none true = refl
or_none false = refl

or_more : (a b c d : Bool) → d ≡ (b || c) → (a || d) ≡ ((a || b) || c)
or_more true b c d is = refl
or_more false b c d is = is

has_more : (name : List ℕ) (tags : List Tag) (tag : Tag) → has_tag name (tags ++ tag ∷ []) ≡ (has_tag name tags || is_named name tag)
has_more name [] tag = or_none (is_named name tag)
has_more name (first ∷ tags) tag =
    or_more (is_named name first) (has_tag name tags) (is_named name tag) (has_tag name (tags ++ tag ∷ [])) (has_more name tags tag)

pub one_more_start : (tags : List Tag) (tag : Tag) (old one : Bool) → old ≡ has_tag (codes "FEN") tags → one ≡ is_named (codes "FEN") tag
    → (old || one) ≡ has_tag (codes "FEN") (tags ++ tag ∷ [])
one_more_start tags tag old one first last = (λ i. first i || last i) ∙ sym (has_more (codes "FEN") tags tag)
