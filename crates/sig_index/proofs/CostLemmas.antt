-- The search through the games, one after the other: what it asks, and the entries that it leaves.
use Rattle.std.proofs.Common.{◌≡◌, ◌≢◌, ℕ, ◌+◌, ◌<◌, ◌≤◌, zero, suc, Bool, true, false, List, [], ◌∷◌, Option, None, Some, get_or, length, set, take, refl, sym, ap, ◌∙◌, subst, inl, inr, arith, add-one, true≢false}
use Rattle.std.specs.Prelude.{slice_get}
use Rattle.std.proofs.lemmas.Bool.{cases_order}
use Rattle.std.proofs.lemmas.List.{get_or-set_other}
use Rattle.std.proofs.lemmas.Option.{get_or_from_slice_get}
use Rattle.base_files.proofs.Rising.{raised-more}
use Rattle.base_files.specs.Counters.{raised}
use Rattle.base_files.specs.declared.extent.Extent.{Extent}
use Rattle.sig_index.specs.Costs.{KeepsOthers, price_by}
use Rattle.sig_index.specs.Games.{extent_in}

-- ---- the price

plus_none : (n : ℕ) → n + 0 ≡ 0 + n
plus_none n = omega arith

regroup : (a b c : ℕ) → a + (b + c) ≡ a + b + c
regroup a b c = omega arith

price_next : {T : Type 0} (cost : T → Extent → Option ℕ → ℕ) (sigs : List T) (extents : List Extent) (plies : List (Option ℕ)) (i : ℕ) (sig : T)
    → slice_get sigs i ≡ Some sig → i < length extents → i < length plies
    → price_by cost (take (suc i) sigs) extents plies ≡ price_by cost (take i sigs) extents plies + cost sig (extent_in extents i) (get_or plies i None)
price_next cost [] extents plies i sig there inside entry = absurd (cc)
price_next cost (s ∷ sigs) [] plies i sig there inside entry = absurd (omega (arith, inside))
price_next cost (s ∷ sigs) (x ∷ extents) [] i sig there inside entry = absurd (omega (arith, entry))
price_next {T} cost (s ∷ sigs) (x ∷ extents) (o ∷ plies) zero sig there inside entry =
    let same : s ≡ sig = cc in
    ap (λ (z : T). cost z x o + 0) same ∙ plus_none (cost sig x o)
price_next cost (s ∷ sigs) (x ∷ extents) (o ∷ plies) (suc i) sig there inside entry =
    ap (λ (n : ℕ). cost s x o + n) (price_next cost sigs extents plies i sig there (omega (arith, inside)) (omega (arith, entry)))
    ∙ regroup (cost s x o) (price_by cost (take i sigs) extents plies) (cost sig (extent_in extents i) (get_or plies i None))

-- One game more.
pub price_more : {T : Type 0} (cost : T → Extent → Option ℕ → ℕ) (sigs : List T) (extents : List Extent) (plies : List (Option ℕ)) (i : ℕ) (sig : T)
    → slice_get sigs i ≡ Some sig → i < length extents → i < length plies
    → price_by cost (take (i + 1) sigs) extents plies ≡ price_by cost (take i sigs) extents plies + cost sig (extent_in extents i) (get_or plies i None)
price_more cost sigs extents plies i sig there inside entry =
    ap (λ (k : ℕ). price_by cost (take k sigs) extents plies) (add-one i) ∙ price_next cost sigs extents plies i sig there inside entry

add_both : (a b c : ℕ) → b ≤ c → a + b ≤ a + c
add_both a b c h = omega arith

-- Those of the first games cost no more than all.
pub price_front : {T : Type 0} (cost : T → Extent → Option ℕ → ℕ) (sigs : List T) (extents : List Extent) (plies : List (Option ℕ)) (k : ℕ)
    → price_by cost (take k sigs) extents plies ≤ price_by cost sigs extents plies
price_front cost [] extents plies zero = omega arith
price_front cost [] extents plies (suc k) = omega arith
price_front cost (s ∷ sigs) extents plies zero = omega arith
price_front cost (s ∷ sigs) [] plies (suc k) = omega arith
price_front cost (s ∷ sigs) (x ∷ extents) [] (suc k) = omega arith
price_front cost (s ∷ sigs) (x ∷ extents) (o ∷ plies) (suc k) =
    add_both (cost s x o) (price_by cost (take k sigs) extents plies) (price_by cost sigs extents plies) (price_front cost sigs extents plies k)

-- The first games cost as much as all where there are no more entries in the filter.
pub price_all : {T : Type 0} (cost : T → Extent → Option ℕ → ℕ) (sigs : List T) (extents : List Extent) (plies : List (Option ℕ)) (k : ℕ) → length plies ≤ k
    → price_by cost (take k sigs) extents plies ≡ price_by cost sigs extents plies
price_all cost [] extents plies zero past = refl
price_all cost [] extents plies (suc k) past = refl
price_all cost (s ∷ sigs) [] [] zero past = refl
price_all cost (s ∷ sigs) (x ∷ extents) [] zero past = refl
price_all cost (s ∷ sigs) extents (o ∷ plies) zero past = absurd (omega (arith, past))
price_all cost (s ∷ sigs) [] plies (suc k) past = refl
price_all cost (s ∷ sigs) (x ∷ extents) [] (suc k) past = refl
price_all cost (s ∷ sigs) (x ∷ extents) (o ∷ plies) (suc k) past = ap (λ (n : ℕ). cost s x o + n) (price_all cost sigs extents plies k (omega (arith, past)))

-- What was asked for with one game more, and so far with this one of all.
pub asked_more : (first old new price cost cost' more : ℕ) → old ≤ first + price → new ≤ old + cost → cost ≡ cost' → more ≡ price + cost' → new ≤ first + more
asked_more first old new price cost cost' more before asks same is = omega arith

pub asked_all : (first new more all : ℕ) → new ≤ first + more → more ≤ all → new ≤ first + all
asked_all first new more all asks h = omega arith

-- And at least what was asked for.
pub least_more : (first old new price cost cost' more : ℕ) → raised first price ≤ old → raised old cost ≤ new → cost ≡ cost' → more ≡ price + cost' → raised first more ≤ new
least_more first old new price cost cost' more before asked same is =
    subst (λ (n : ℕ). raised first n ≤ new) (ap (λ (n : ℕ). price + n) same ∙ sym is) (raised-more first old new price cost before asked)

-- ---- the entries

-- The games behind this one have their old entries.
abbrev pub Untouched : List (Option ℕ) → List (Option ℕ) → ℕ → Type 0
Untouched old new i = (k : ℕ) → i ≤ k → get_or new k None ≡ get_or old k None

pub untouched_more : (old now new : List (Option ℕ)) (i : ℕ) (ply : Option ℕ) → new ≡ set now i ply → Untouched old now i → Untouched old new (i + 1)
untouched_more old now new i ply is before k behind =
    ap (λ (l : List (Option ℕ)). get_or l k None) is
    ∙ get_or-set_other now i k ply None (λ same. omega (arith, same, behind))
    ∙ before k (omega (arith, behind))

other_kept : (old now new : List (Option ℕ)) (i k : ℕ) (ply : Option ℕ) → new ≡ set now i ply → k ≢ i → get_or now k None ≡ get_or old k None → get_or new k None ≡ get_or old k None
other_kept old now new i k ply is other before =
    ap (λ (l : List (Option ℕ)). get_or l k None) is ∙ (get_or-set_other now i k ply None other ∙ before)

-- Who is not looked at keeps its entry over one game more.
pub kept_more : (looks : Option ℕ → Bool) (old now new : List (Option ℕ)) (i : ℕ) (ply : Option ℕ) → new ≡ set now i ply → (looks (get_or now i None) ≡ false → new ≡ now)
    → Untouched old now i → KeepsOthers looks old now → KeepsOthers looks old new
kept_more looks old now new i ply is passed rest kept k not =
    elim (cases_order k i) [
      | inl same ↦
          let here : get_or now k None ≡ get_or old k None = rest k (omega (arith, same)) in
          let not_now : looks (get_or now i None) ≡ false = ap (λ (n : ℕ). looks (get_or now n None)) (sym same) ∙ (ap looks here ∙ not) in
          ap (λ (l : List (Option ℕ)). get_or l k None) (passed not_now) ∙ here
      | inr (inl less) ↦ other_kept old now new i k ply is (λ same. omega (arith, same, less)) (kept k not)
      | inr (inr more) ↦ other_kept old now new i k ply is (λ same. omega (arith, same, more)) (kept k not)
    ]

-- A game that is looked at is not passed over.
pub not_passed : (looks : Option ℕ → Bool) (plies : List (Option ℕ)) (i : ℕ) (old : Option ℕ) → slice_get plies i ≡ Some old → looks old ≡ true → looks (get_or plies i None) ≡ false → ⊥
not_passed looks plies i old there looked passed = true≢false (sym looked ∙ (ap looks (sym (get_or_from_slice_get plies i old None there)) ∙ passed))
