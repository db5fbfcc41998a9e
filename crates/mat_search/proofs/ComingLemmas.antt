-- Counts in a range, each by itself; and those of a later ply, which can come.
use Rattle.std.proofs.Common.{◌≡◌, ℕ, ◌<◌, ◌≤◌, Bool, false, true, ◌&&◌, leb, List, [], ◌∷◌, ◌++◌, drop, length, take, refl, arith}
use Rattle.std.specs.Prelude.{slice_index}
use Rattle.std.specs.List.{list_all, range_with_len}
use Rattle.std.proofs.lemmas.Bool.{and_parts, leb-true}
use Rattle.chess_laws.specs.Position.{Sound}
use Rattle.game_tree.specs.Game.{GameTree}
use Rattle.game_tree.specs.Legal.{IsLegalGame}
use Rattle.sig_index.specs.declared.mat_query.MatRange.{MatRange}
use Rattle.sig_index.specs.Coming.{can_come}
use Rattle.sig_index.proofs.ComingLemmas as coming
use Rattle.sig_index.proofs.Ranges.{all_each}
use Rattle.mat_search.specs.Matching.{count_in, counts_at, in_range}

-- ---- the ten tests

pub each_in : (range : MatRange) (counts : List ℕ) → in_range range counts ≡ true → (place : ℕ) → place < 10 → count_in range counts place ≡ true
unfolding in_range
each_in range counts all place less = all_each (count_in range counts) 0 10 place all (omega arith) less

-- The test of each of the ten places, as a program makes it.
pub ten_tests : (t : ℕ → Bool) → (t 0 && t 1 && t 2 && t 3 && t 4 && t 5 && t 6 && t 7 && t 8 && t 9) ≡ list_all t (range_with_len 0 10)
ten_tests t = and_ten (t 0) (t 1) (t 2) (t 3) (t 4) (t 5) (t 6) (t 7) (t 8) (t 9)
  where
    and_ten : (a b c d e f g h i j : Bool) → (a && b && c && d && e && f && g && h && i && j) ≡ (a && (b && (c && (d && (e && (f && (g && (h && (i && (j && true))))))))))
    and_ten false b c d e f g h i j = refl
    and_ten true false c d e f g h i j = refl
    and_ten true true false d e f g h i j = refl
    and_ten true true true false e f g h i j = refl
    and_ten true true true true false f g h i j = refl
    and_ten true true true true true false g h i j = refl
    and_ten true true true true true true false h i j = refl
    and_ten true true true true true true true false i j = refl
    and_ten true true true true true true true true false j = refl
    and_ten true true true true true true true true true false = refl
    and_ten true true true true true true true true true true = refl

-- The bounds of the one side and then those of the other, where there are ten.
pub ten_exchanged : (bounds : List ℕ) → length bounds ≡ 10
    → (slice_index bounds 5 ∷ slice_index bounds 6 ∷ slice_index bounds 7 ∷ slice_index bounds 8 ∷ slice_index bounds 9
    ∷ slice_index bounds 0 ∷ slice_index bounds 1 ∷ slice_index bounds 2 ∷ slice_index bounds 3 ∷ slice_index bounds 4 ∷ []) ≡ drop 5 bounds ++ take 5 bounds
ten_exchanged (a ∷ b ∷ c ∷ d ∷ e ∷ f ∷ g ∷ h ∷ i ∷ j ∷ []) ten = refl
ten_exchanged (a ∷ b ∷ c ∷ d ∷ e ∷ f ∷ g ∷ h ∷ i ∷ j ∷ k ∷ more) ten = absurd (omega (arith, ten))
ten_exchanged [] ten = absurd (omega (arith, ten))
ten_exchanged (a ∷ []) ten = absurd (omega (arith, ten))
ten_exchanged (a ∷ b ∷ []) ten = absurd (omega (arith, ten))
ten_exchanged (a ∷ b ∷ c ∷ []) ten = absurd (omega (arith, ten))
ten_exchanged (a ∷ b ∷ c ∷ d ∷ []) ten = absurd (omega (arith, ten))
ten_exchanged (a ∷ b ∷ c ∷ d ∷ e ∷ []) ten = absurd (omega (arith, ten))
ten_exchanged (a ∷ b ∷ c ∷ d ∷ e ∷ f ∷ []) ten = absurd (omega (arith, ten))
ten_exchanged (a ∷ b ∷ c ∷ d ∷ e ∷ f ∷ g ∷ []) ten = absurd (omega (arith, ten))
ten_exchanged (a ∷ b ∷ c ∷ d ∷ e ∷ f ∷ g ∷ h ∷ []) ten = absurd (omega (arith, ten))
ten_exchanged (a ∷ b ∷ c ∷ d ∷ e ∷ f ∷ g ∷ h ∷ i ∷ []) ten = absurd (omega (arith, ten))

pub at_least : (range : MatRange) (counts : List ℕ) → in_range range counts ≡ true → (place : ℕ) → place < 10 → slice_index range.lo place ≤ slice_index counts place
at_least range counts all place less =
    leb-true (slice_index range.lo place) (slice_index counts place)
    (and_parts (leb (slice_index range.lo place) (slice_index counts place)) (leb (slice_index counts place) (slice_index range.hi place)) (each_in range counts all place less)).0

pub at_most : (range : MatRange) (counts : List ℕ) → in_range range counts ≡ true → (place : ℕ) → place < 10 → slice_index counts place ≤ slice_index range.hi place
at_most range counts all place less =
    leb-true (slice_index counts place) (slice_index range.hi place)
    (and_parts (leb (slice_index range.lo place) (slice_index counts place)) (leb (slice_index counts place) (slice_index range.hi place)) (each_in range counts all place less)).1

-- ---- a later ply

-- Counts that are in a range at a later ply can come into it.
pub comes : (range : MatRange) (game : GameTree) (i j : ℕ) → Sound game.start → IsLegalGame game → i ≤ j → in_range range (counts_at game j) ≡ true
    → can_come range (counts_at game i) ≡ true
comes range game i j sound legal later holds = coming.comes game range i j sound legal later (at_least range (counts_at game j) holds)
