-- The list of the twins.
use Rattle.std.proofs.Common.{◌≡◌, ℕ, ◌+◌, ◌<◌, zero, suc, Bool, true, false, cond, ◌&&◌, not, List, [], ◌∷◌, ◌++◌, filter, length, Contains, refl, sym, ap, ◌∙◌, subst, arith, add-one, inl, inr}
use Rattle.std.specs.Prelude.{◌↔◌, All, AllPairs}
use Rattle.std.specs.List.{list_any, range_with_len}
use Rattle.std.proofs.lemmas.Bool.{and_from, and_parts, cases_Bool, cases_eq, not-true, not_from_false}
use Rattle.std.proofs.lemmas.List.Elements.{All-push, Contains-append_left, Contains-push, Contains-push_cases}
use Rattle.std.proofs.lemmas.List.Quantifiers.{all_pairs_push}
use Rattle.game_tree.specs.Game.{GameTree}
use Rattle.game_tree.specs.declared.head.Head.{Head}
use Rattle.sig_index.specs.Games.{head_in}
use Rattle.sig_index.proofs.Ranges.{any_from}
use Rattle.twin_games.specs.Twins.{Twin, agrees, begins_like, game_in, is_twin, matches, twins_of}
use Rattle.twin_games.proofs.MeetLemmas.{matched}
use Rattle.twin_games.proofs.RangeLemmas.{any_found, append_none, filter_next, filter_with, filter_without}
use Rattle.twin_games.proofs.TestLemmas.{agrees-Decides, begins_like-Decides}

-- The numbers rise, and are below a limit.
pub record Rises (numbers : List ℕ) (limit : ℕ) : Type 0 where
  pub pairs : AllPairs (λ i j. i < j) numbers
  pub below : All (λ i. i < limit) numbers

pub rises_none : (numbers : List ℕ) → numbers ≡ [] → Rises numbers 0
rises_none numbers none = record {
  pairs = λ i j d before less. absurd (omega (arith, less, ap length none));
  below = λ k d less. absurd (omega (arith, less, ap length none));
}

pub rises_push : (numbers after : List ℕ) (i : ℕ) → after ≡ numbers ++ i ∷ [] → Rises numbers i → Rises after (i + 1)
rises_push numbers after i is rises =
    let wide : All (λ j. j < i + 1) numbers = λ k d less. omega (arith, rises.below k d less) in
    let all : Rises (numbers ++ i ∷ []) (i + 1) = record {
      pairs = all_pairs_push (λ a b. a < b) numbers i rises.pairs rises.below;
      below = All-push (λ j. j < i + 1) numbers i wide (omega arith);
    } in
    subst (λ (xs : List ℕ). Rises xs (i + 1)) (sym is) all

pub rises_skip : (numbers : List ℕ) (i : ℕ) → Rises numbers i → Rises numbers (i + 1)
rises_skip numbers i rises = record { pairs = rises.pairs; below = λ k d less. omega (arith, rises.below k d less) }

rising : (test : ℕ → Bool) (n : ℕ) → Rises (filter test (range_with_len 0 n)) n
rising test zero = rises_none [] refl
rising test (suc n) =
    let before = rising test n in
    let now : Rises (filter test (range_with_len 0 (n + 1))) (n + 1) = elim (cases_Bool (test n)) [
      | inl passes ↦ rises_push (filter test (range_with_len 0 n)) (filter test (range_with_len 0 (n + 1))) n (filter_with test n passes) before
      | inr fails ↦ subst (λ (xs : List ℕ). Rises xs (n + 1)) (sym (filter_without test n fails)) (rises_skip (filter test (range_with_len 0 n)) n before)
    ] in
    subst (λ (k : ℕ). Rises (filter test (range_with_len 0 k)) k) (add-one n) now

pub twins_rise : (heads : List Head) (games : List GameTree) (depth : ℕ) → AllPairs (λ i j. i < j) (twins_of heads games depth)
twins_rise heads games depth = (rising (is_twin heads games depth) (length heads)).pairs

passes_in : (test : ℕ → Bool) (n i : ℕ) → i < n → test i ≡ true → Contains (filter test (range_with_len 0 n)) i
passes_in test zero i less holds = absurd (omega (arith, less))
passes_in test (suc n) i less holds =
    subst (λ (k : ℕ). Contains (filter test (range_with_len 0 k)) i) (add-one n)
    (elim (cases_eq n i) [
      | inl same ↦
          let here : test n ≡ true = ap test same ∙ holds in
          subst (λ (xs : List ℕ). Contains xs i) (sym (filter_with test n here))
          (subst (Contains (filter test (range_with_len 0 n) ++ n ∷ [])) same (Contains-push (filter test (range_with_len 0 n)) n))
      | inr apart ↦
          let before : Contains (filter test (range_with_len 0 n)) i = passes_in test n i (omega (arith, less, apart)) holds in
          elim (cases_Bool (test n)) [
            | inl passes ↦ subst (λ (xs : List ℕ). Contains xs i) (sym (filter_with test n passes)) (Contains-append_left (filter test (range_with_len 0 n)) (n ∷ []) i before)
            | inr fails ↦ subst (λ (xs : List ℕ). Contains xs i) (sym (filter_without test n fails)) before
          ]
    ])

in_passes : (test : ℕ → Bool) (n i : ℕ) → Contains (filter test (range_with_len 0 n)) i → (i < n) × (test i ≡ true)
in_passes test zero i is = absurd (omega (arith, is.1))
in_passes test (suc n) i is =
    let now : Contains (filter test (range_with_len 0 (n + 1))) i = subst (λ (k : ℕ). Contains (filter test (range_with_len 0 k)) i) (sym (add-one n)) is in
    elim (cases_Bool (test n)) [
      | inl passes ↦ elim (Contains-push_cases (filter test (range_with_len 0 n)) n i (subst (λ (xs : List ℕ). Contains xs i) (filter_with test n passes) now)) [
        | inl earlier ↦ let rest = in_passes test n i earlier in (omega (arith, rest.0), rest.1)
        | inr same ↦ (omega (arith, same), sym (ap test same) ∙ passes)
      ]
      | inr fails ↦ let rest = in_passes test n i (subst (λ (xs : List ℕ). Contains xs i) (filter_without test n fails) now) in (omega (arith, rest.0), rest.1)
    ]

to_twin : (heads : List Head) (games : List GameTree) (depth i : ℕ) → i < length heads → is_twin heads games depth i ≡ true → Twin heads games depth i
to_twin heads games depth i there holds =
    let both = and_parts (not (head_in heads i).deleted) (list_any (matches heads games depth i) (range_with_len 0 i)) holds in
    let found = any_found (matches heads games depth i) 0 i both.1 in
    let m = matched heads games depth i found.0 found.1.1 in
    record {
      there = there;
      undeleted = not-true (head_in heads i).deleted both.0;
      earlier = found.0;
      before = omega (arith, found.1.0);
      earlier_undeleted = m.kept;
      agree = (agrees-Decides (head_in heads found.0) (head_in heads i)).0 m.agree;
      begin_alike = (begins_like-Decides depth (game_in games found.0) (game_in games i)).0 m.begins;
    }

from_twin : (heads : List Head) (games : List GameTree) (depth i : ℕ) → Twin heads games depth i → is_twin heads games depth i ≡ true
from_twin heads games depth i twin =
    let j = twin.earlier in
    let a = agrees (head_in heads j) (head_in heads i) in
    let b = begins_like depth (game_in games j) (game_in games i) in
    and_from (not (head_in heads i).deleted) (list_any (matches heads games depth i) (range_with_len 0 i)) (not_from_false (head_in heads i).deleted twin.undeleted)
    (any_from (matches heads games depth i) 0 i j (omega arith) (omega (arith, twin.before))
    (and_from (not (head_in heads j).deleted) (a && b) (not_from_false (head_in heads j).deleted twin.earlier_undeleted)
    (and_from a b ((agrees-Decides (head_in heads j) (head_in heads i)).1 twin.agree)
    ((begins_like-Decides depth (game_in games j) (game_in games i)).1 twin.begin_alike))))

pub listed_are_twins : (heads : List Head) (games : List GameTree) (depth i : ℕ) → Contains (twins_of heads games depth) i ↔ Twin heads games depth i
listed_are_twins heads games depth i = (
  (λ is. let passed = in_passes (is_twin heads games depth) (length heads) i is in to_twin heads games depth i passed.0 passed.1),
  (λ (twin : Twin heads games depth i). passes_in (is_twin heads games depth) (length heads) i twin.there (from_twin heads games depth i twin)),
)

-- A game more was listed if it is a twin.
pub listed_more : (test : ℕ → Bool) (numbers after : List ℕ) (i : ℕ) (twin : Bool) → numbers ≡ filter test (range_with_len 0 i)
    → after ≡ numbers ++ cond twin (i ∷ []) [] → twin ≡ test i → after ≡ filter test (range_with_len 0 (i + 1))
listed_more test numbers after i twin are is tells =
    is ∙ (λ k. are k ++ cond (tells k) (i ∷ []) []) ∙ sym (filter_next test i)

pub rises_more : (numbers after : List ℕ) (i : ℕ) (twin : Bool) → after ≡ numbers ++ cond twin (i ∷ []) [] → Rises numbers i → Rises after (i + 1)
rises_more numbers after i true is rises = rises_push numbers after i is rises
rises_more numbers after i false is rises = subst (λ (xs : List ℕ). Rises xs (i + 1)) (sym (is ∙ append_none numbers)) (rises_skip numbers i rises)
