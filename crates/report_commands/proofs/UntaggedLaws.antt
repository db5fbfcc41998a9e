-- Laws of heads without their tags, which searches see: twins are the same among them.
use Rattle.std.proofs.Common.{List, map, ◌≡◌, ℕ, zero, suc, [], ◌∷◌, refl, ◌&&◌, Bool, not, ap, ap₂, filter, sym, ◌∙◌}
use Rattle.std.proofs.Math.Path.{fun_ext}
use Rattle.std.proofs.lemmas.List.{length-map}
use Rattle.std.specs.List.{list_any, range_with_len}
use Rattle.base_core.specs.Base.{Held}
use Rattle.game_tree.specs.Game.{GameTree}
use Rattle.game_tree.specs.Head.{without_tags}
use Rattle.game_tree.specs.declared.head.Head.{Head}
use Rattle.sig_index.specs.Games.{head_in}
use Rattle.twin_games.specs.Twins.{agrees, matches, is_twin, twins_of}

-- The heads of games, and those without their tags.
abbrev pub heads_in : List Held → List Head
heads_in held = map (λ (g : Held). g.head) held

abbrev pub untagged_in : List Held → List Head
untagged_in held = map (λ (g : Held). without_tags g.head) held

head_untagged : (held : List Held) (i : ℕ) → head_in (untagged_in held) i ≡ without_tags (head_in (heads_in held) i)
head_untagged [] i = refl
head_untagged (g ∷ held) zero = refl
head_untagged (g ∷ held) (suc i) = head_untagged held i

matches_untagged : (held : List Held) (games : List GameTree) (depth i j : ℕ) → matches (untagged_in held) games depth i j ≡ matches (heads_in held) games depth i j
unfolding agrees
matches_untagged held games depth i j = rw (head_untagged held i, head_untagged held j) refl

is_twin_untagged : (held : List Held) (games : List GameTree) (depth i : ℕ) → is_twin (untagged_in held) games depth i ≡ is_twin (heads_in held) games depth i
is_twin_untagged held games depth i =
    ap₂ (λ (b : Bool) (test : ℕ → Bool). b && list_any test (range_with_len 0 i)) (ap (λ (h : Head). not h.deleted) (head_untagged held i))
    (fun_ext (λ j. matches_untagged held games depth i j))

-- The twins among the games of a base.
pub twins_untagged : (held : List Held) (games : List GameTree) (depth : ℕ) → twins_of (untagged_in held) games depth ≡ twins_of (heads_in held) games depth
twins_untagged held games depth =
    ap₂ (λ (test : ℕ → Bool) (n : ℕ). filter test (range_with_len 0 n)) (fun_ext (λ i. is_twin_untagged held games depth i))
    (length-map held (λ (g : Held). without_tags g.head) ∙ sym (length-map held (λ (g : Held). g.head)))
