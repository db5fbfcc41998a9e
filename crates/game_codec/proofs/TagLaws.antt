-- The tags of a record have one reading.
use Rattle.std.proofs.Common.{not, ◌≡◌, ◌<◌, ℕ, true, inl, inr, List, [], ◌∷◌, ◌++◌, Option, Result, Err, All, refl, sym, subst, ap, ◌∙◌, append_assoc}
use Rattle.std.proofs.lemmas.Bool.{cases_Bool, not-true, not_from_false}
use Rattle.std.proofs.lemmas.List.Elements.{All-nil, All-cons, All-head, All-tail}
use Rattle.game_tree.specs.Head.{IsTag}
use Rattle.game_tree.specs.TagName.{free_of, is_reserved}
use Rattle.game_tree.specs.declared.head.Tag.{Tag}
use Rattle.game_codec.specs.TagSpelling.{counted}
use Rattle.game_codec.specs.TagReading.{tag_at, BreaksTags, BeginsTag, BeginsTags}
use Rattle.game_codec.specs.Written.{tags_text}
use Rattle.game_codec.specs.declared.fault.RecordWhat.{RecordWhat}
use Rattle.game_codec.proofs.TagReadingLaws.{all_right, tag_at-SpellsTag, BeginsTag-one, SpellsTag-name, SpellsTag-tag_at, SpellsTag-value, tag_at-end}

-- The end, a tag and a fault exclude one another

end-not_tag : (bytes : List ℕ) (r : List ℕ) (tag : Tag) (later : List ℕ) → bytes ≡ 0 ∷ r → BeginsTag bytes tag later → ⊥
end-not_tag bytes r tag later e h =
    let read = rw e at h in
    let end = tag_at-end r in
    cc

end-not_fault : (bytes : List ℕ) (r : List ℕ) (w : RecordWhat) → bytes ≡ 0 ∷ r → tag_at bytes ≡ Err w → ⊥
end-not_fault bytes r w e h =
    let read = rw e at h in
    let end = tag_at-end r in
    cc

tag-not_fault : (bytes : List ℕ) (tag : Tag) (later : List ℕ) (w : RecordWhat) → BeginsTag bytes tag later
    → tag_at bytes ≡ Err w → ⊥
tag-not_fault bytes tag later w h fault = cc

same_fault : (w v : RecordWhat) → ◌≡◌ {A = Result (Option (Tag × List ℕ)) RecordWhat} (Err w) (Err v) → w ≡ v
same_fault w v e = cc

-- One reading

pub BeginsTags-one : (bytes : List ℕ) (a b : List Tag) (r s : List ℕ) → BeginsTags bytes a r → BeginsTags bytes b s
    → (a ≡ b) × (r ≡ s)
BeginsTags-one bytes [] [] r s h k = (refl, cc)
BeginsTags-one bytes [] (u ∷ b) r s h (later, tag, more) = absurd (end-not_tag bytes r u later h tag)
BeginsTags-one bytes (t ∷ a) [] r s (later, tag, more) k = absurd (end-not_tag bytes s t later k tag)
BeginsTags-one bytes (t ∷ a) (u ∷ b) r s (later, tag, more) (later', tag', more') =
    let one = BeginsTag-one bytes t u later later' tag tag' in
    let i = BeginsTags-one later' a b r s (subst (λ (l : List ℕ). BeginsTags l a r) one.1 more) more' in
    let first = one.0 in
    let others = i.0 in
    (cc, i.1)

pub BeginsTags-unbroken : (bytes : List ℕ) (a b : List Tag) (r s : List ℕ) (w : RecordWhat) → BeginsTags bytes a r
    → BreaksTags bytes b s w → ⊥
BeginsTags-unbroken bytes [] [] r s w h (here, fault) = end-not_fault bytes r w h fault
BeginsTags-unbroken bytes [] (u ∷ b) r s w h (later, tag, more) = end-not_tag bytes r u later h tag
BeginsTags-unbroken bytes (t ∷ a) [] r s w (later, tag, more) (here, fault) = tag-not_fault bytes t later w tag fault
BeginsTags-unbroken bytes (t ∷ a) (u ∷ b) r s w (later, tag, more) (later', tag', more') =
    let one = BeginsTag-one bytes t u later later' tag tag' in
    BeginsTags-unbroken later' a b r s w (subst (λ (l : List ℕ). BeginsTags l a r) one.1 more) more'

pub BreaksTags-one : (bytes : List ℕ) (a b : List Tag) (r s : List ℕ) (w v : RecordWhat) → BreaksTags bytes a r w
    → BreaksTags bytes b s v → (r ≡ s) × (w ≡ v)
BreaksTags-one bytes [] [] r s w v (here, fault) (here', fault') = (here ∙ sym here', same_fault w v (sym fault ∙ fault'))
BreaksTags-one bytes [] (u ∷ b) r s w v (here, fault) (later, tag, more) = absurd (tag-not_fault bytes u later w tag fault)
BreaksTags-one bytes (t ∷ a) [] r s w v (later, tag, more) (here, fault) = absurd (tag-not_fault bytes t later v tag fault)
BreaksTags-one bytes (t ∷ a) (u ∷ b) r s w v (later, tag, more) (later', tag', more') =
    let one = BeginsTag-one bytes t u later later' tag tag' in
    BreaksTags-one later' a b r s w v (subst (λ (l : List ℕ). BreaksTags l a r w) one.1 more) more'

-- Tags within their bounds

pub BeginsTags-IsTag : (bytes : List ℕ) (a : List Tag) (r : List ℕ) → All (λ b. b < 256) bytes → BeginsTags bytes a r → All IsTag (free_of a)
BeginsTags-IsTag bytes [] r small h = All-nil IsTag
BeginsTags-IsTag bytes (tag ∷ tags) r small (later, first, more) =
    let spells = SpellsTag-tag_at bytes tag later small first in
    let others = BeginsTags-IsTag later tags r (all_right (λ b. b < 256) spells.0 later (rw spells.2 at small)) more in
    elim (cases_Bool (not (is_reserved tag.name))) [
      | inl free ↦
          rw free (All-cons IsTag tag (free_of tags)
          (record {
            name = SpellsTag-name bytes tag later spells;
            free = not-true (is_reserved tag.name) free;
            value = SpellsTag-value bytes tag later spells;
          })
          others)
      | inr reserved ↦ rw reserved others
    ]

pub tags_text-begins : (tags : List Tag) (rest : List ℕ) → All IsTag tags
    → BeginsTags (tags_text tags ++ 0 ∷ rest) tags rest
tags_text-begins [] rest h = refl
tags_text-begins (tag ∷ tags) rest h =
    let is_tag = All-head IsTag tag tags h in
    let spelled : List ℕ = counted tag.name ++ counted tag.value in
    let later : List ℕ = tags_text tags ++ 0 ∷ rest in (
      later,
      tag_at-SpellsTag (tags_text (tag ∷ tags) ++ 0 ∷ rest) tag later
          (spelled, inl (record { name = is_tag.name; value = is_tag.value; spelled = refl }), simp append_assoc),
      tags_text-begins tags rest (All-tail IsTag tag tags h),
    )

pub free_of-IsTag : (tags : List Tag) → All IsTag tags → free_of tags ≡ tags
free_of-IsTag [] h = refl
free_of-IsTag (tag ∷ tags) h =
    let free : not (is_reserved tag.name) ≡ true = not_from_false (is_reserved tag.name) (All-head IsTag tag tags h).free in
    rw free (ap (λ (ts : List Tag). tag ∷ ts) (free_of-IsTag tags (All-tail IsTag tag tags h)))
