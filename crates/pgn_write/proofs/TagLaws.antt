-- Tags one behind the other.
use Rattle.std.proofs.Common.{◌≡◌, ℕ, List, [], ◌∷◌, ◌++◌, ◌≤◌, length, arith, refl, sym, subst, ap, ◌∙◌, append_assoc, append-nil, flat_map}
use Rattle.std.specs.Prelude.{codes}
use Rattle.game_tree.specs.declared.head.Tag.{Tag}
use Rattle.game_tree.specs.declared.head.Head.{Head}
use Rattle.game_tree.specs.Game.{GameTree}
use Rattle.cell_core.specs.declared.man.Colour.TheVariants.{White, Black}
use Rattle.pgn_write.specs.TagPairs.{tag_text, pair, roster, rating_pairs, eco_pairs, event_date_pairs, flags_text, flags_pairs, start_pairs, tags_of}

pub tags_text-append : (first second : List Tag) → flat_map tag_text (first ++ second) ≡ flat_map tag_text first ++ flat_map tag_text second
tags_text-append [] second = refl
tags_text-append (tag ∷ first) second =
    ap (λ (bytes : List ℕ). tag_text tag ++ bytes) (tags_text-append first second) ∙ sym (append_assoc (tag_text tag) (flat_map tag_text first) (flat_map tag_text second))

pub ruleset tag_rules = (append_assoc, append-nil, tags_text-append)

eight-texts : (a b d e f g h i : List Tag)
    → flat_map tag_text (a ++ (b ++ (d ++ (e ++ (f ++ (g ++ (h ++ i)))))))
    ≡ flat_map tag_text a ++ (flat_map tag_text b ++ (flat_map tag_text d ++ (flat_map tag_text e ++ (flat_map tag_text f ++ (flat_map tag_text g ++ (flat_map tag_text h ++ flat_map tag_text i))))))
eight-texts a b d e f g h i =
    tags_text-append a (b ++ (d ++ (e ++ (f ++ (g ++ (h ++ i))))))
    ∙ ap (λ (x : List ℕ). flat_map tag_text a ++ x) (tags_text-append b (d ++ (e ++ (f ++ (g ++ (h ++ i)))))
    ∙ ap (λ (x : List ℕ). flat_map tag_text b ++ x) (tags_text-append d (e ++ (f ++ (g ++ (h ++ i))))
    ∙ ap (λ (x : List ℕ). flat_map tag_text d ++ x) (tags_text-append e (f ++ (g ++ (h ++ i)))
    ∙ ap (λ (x : List ℕ). flat_map tag_text e ++ x) (tags_text-append f (g ++ (h ++ i))
    ∙ ap (λ (x : List ℕ). flat_map tag_text f ++ x) (tags_text-append g (h ++ i)
    ∙ ap (λ (x : List ℕ). flat_map tag_text g ++ x) (tags_text-append h i))))))

-- The tags of a game, part by part.
pub tags_of-parts : (head : Head) (game : GameTree) → flat_map tag_text (tags_of head game)
    ≡ flat_map tag_text (roster head) ++ (flat_map tag_text (rating_pairs White head.white_rating) ++ (flat_map tag_text (rating_pairs Black head.black_rating)
    ++ (flat_map tag_text (eco_pairs head.eco) ++ (flat_map tag_text (event_date_pairs head.event_date) ++ (flat_map tag_text (flags_pairs (flags_text head.deleted head.marks))
    ++ (flat_map tag_text (start_pairs game) ++ flat_map tag_text head.tags))))))
tags_of-parts head game =
    eight-texts (roster head) (rating_pairs White head.white_rating) (rating_pairs Black head.black_rating) (eco_pairs head.eco)
    (event_date_pairs head.event_date) (flags_pairs (flags_text head.deleted head.marks)) (start_pairs game) head.tags

-- Eight parts one behind the other.
pub eight-parts : (old o1 o2 o3 o4 o5 o6 o7 o8 a b d e f g h i : List ℕ) → o1 ≡ old ++ a → o2 ≡ o1 ++ b → o3 ≡ o2 ++ d → o4 ≡ o3 ++ e → o5 ≡ o4 ++ f
    → o6 ≡ o5 ++ g → o7 ≡ o6 ++ h → o8 ≡ o7 ++ i → o8 ≡ old ++ (a ++ (b ++ (d ++ (e ++ (f ++ (g ++ (h ++ i)))))))
eight-parts old o1 o2 o3 o4 o5 o6 o7 o8 a b d e f g h i p q r s t u v w =
    w ∙ ap (λ (x : List ℕ). x ++ i) (v ∙ ap (λ (x : List ℕ). x ++ h) (u ∙ ap (λ (x : List ℕ). x ++ g) (t ∙ ap (λ (x : List ℕ). x ++ f)
    (s ∙ ap (λ (x : List ℕ). x ++ e) (r ∙ ap (λ (x : List ℕ). x ++ d) (q ∙ ap (λ (x : List ℕ). x ++ b) p))))))
    ∙ simp append_assoc refl

-- The marks, where there are any.
pub flags_pairs-some : (letters : List ℕ) → 1 ≤ length letters → flags_pairs letters ≡ pair (codes "ScidFlags") letters ∷ []
flags_pairs-some [] some = absurd (omega (arith, some))
flags_pairs-some (letter ∷ letters) some = refl

-- A game has tags.
pub tags-some : (head : Head) (game : GameTree) (out now : List ℕ) → out ≡ flat_map tag_text (tags_of head game) → now ≡ out ++ 10 ∷ [] → 2 ≤ length now
tags-some head game out now is more =
    subst (λ (text : List ℕ). 2 ≤ length text) (sym (more ∙ ap (λ (text : List ℕ). text ++ 10 ∷ []) is)) (omega arith)
