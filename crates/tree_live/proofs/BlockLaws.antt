-- Games that are in or out by a filter up to a number, and blocks of 64 of them.
use Rattle.std.proofs.Common.{◌≡◌, ℕ, zero, suc, ◌+◌, ◌*◌, ◌/◌, ◌<◌, ◌≤◌, ◌==◌, ◌⊎◌, ◌-◌, inl, inr, List, [], ◌∷◌, Option, Some, None, IfSome, is_some, length, take, get_or, set, refl, sym, ap, subst, ◌∙◌, arith}
use Rattle.std.specs.Int.{bit_at}
use Rattle.std.proofs.lemmas.Bool.{cases_eq, cases_lt}
use Rattle.std.proofs.lemmas.List.{get_or-set_same, get_or-set_other, take_all}
use Rattle.game_filter.specs.Filter.{AreMarks}
use Rattle.tree_live.specs.declared.entry.Entry.{Entry}
use Rattle.tree_live.specs.declared.marks.Marks.TheVariants.{Plies}
use Rattle.tree_live.specs.Watching.{under}
use Rattle.tree_live.specs.Keeping.{AreBrought, TellsBlock, entry_at, partly}
use Rattle.tree_live.proofs.GameLaws.{length-marks}

-- The games from number n on are as they were.
pub past-partly : (plies : List (Option ℕ)) (games : List Entry) (n i : ℕ) → n ≤ i → entry_at (under (take n plies) games) i ≡ entry_at games i
past-partly [] games zero i past = refl
past-partly [] games (suc n) i past = refl
past-partly (p ∷ plies) games zero i past = refl
past-partly (p ∷ plies) [] (suc n) i past = refl
past-partly (p ∷ plies) (g ∷ games) (suc n) zero past = absurd (omega (arith, past))
past-partly (p ∷ plies) (g ∷ games) (suc n) (suc i) past = past-partly plies games n i (omega (arith, past))

-- Those below it are in if the filter has them in.
pub below-partly : (plies : List (Option ℕ)) (games : List Entry) (n i : ℕ) → length plies ≡ length games → i < n → i < length games
    → (entry_at (under (take n plies) games) i).is_in ≡ is_some (get_or plies i None)
below-partly [] games n i same below there = absurd (omega (arith, same, there))
below-partly (p ∷ plies) [] n i same below there = absurd (omega (arith, same))
below-partly (p ∷ plies) (g ∷ games) zero i same below there = absurd (omega (arith, below))
below-partly (p ∷ plies) (g ∷ games) (suc n) zero same below there = refl
below-partly (p ∷ plies) (g ∷ games) (suc n) (suc i) same below there =
    below-partly plies games n i (omega (arith, same)) (omega (arith, below)) (omega (arith, there))

-- Games that are in or out by the filter already.
pub partly-already : (plies : List (Option ℕ)) (games : List Entry) (n m : ℕ) → length plies ≡ length games → n ≤ m
    → ((i : ℕ) → n ≤ i → i < m → i < length games → (entry_at games i).is_in ≡ is_some (get_or plies i None))
    → under (take m plies) games ≡ under (take n plies) games
partly-already [] games zero zero same order already = refl
partly-already [] games zero (suc m) same order already = refl
partly-already [] games (suc n) zero same order already = refl
partly-already [] games (suc n) (suc m) same order already = refl
partly-already (p ∷ plies) [] n m same order already = absurd (omega (arith, same))
partly-already (p ∷ plies) (g ∷ games) zero zero same order already = refl
partly-already (p ∷ plies) (g ∷ games) (suc n) zero same order already = absurd (omega (arith, order))
partly-already (p ∷ plies) (g ∷ games) zero (suc m) same order already =
    ap (λ (b : _). record g { is_in = b } ∷ under (take m plies) games) (sym (already 0 (omega arith) (omega arith) (omega arith)))
    ∙ ap (λ (rest : List Entry). g ∷ rest)
    (partly-already plies games 0 m (omega (arith, same)) (omega arith)
    (λ i from below there. already (suc i) (omega arith) (omega (arith, below)) (omega (arith, there)))
    ∙ nothing plies games)
  where
    nothing : (plies : List (Option ℕ)) (games : List Entry) → under (take 0 plies) games ≡ games
    nothing [] games = refl
    nothing (p ∷ plies) games = refl
partly-already (p ∷ plies) (g ∷ games) (suc n) (suc m) same order already =
    ap (λ (rest : List Entry). record g { is_in = is_some p } ∷ rest)
    (partly-already plies games n m (omega (arith, same)) (omega (arith, order))
    (λ i from below there. already (suc i) (omega (arith, from)) (omega (arith, below)) (omega (arith, there))))

-- All games are below the end of the filter.
pub partly-all : (n : ℕ) (plies : List (Option ℕ)) (games : List Entry) → length plies ≤ n → partly n plies games ≡ under plies games
partly-all n plies games all = ap (λ (l : List (Option ℕ)). under l games) (take_all n plies all)

pub partly-none : (plies : List (Option ℕ)) (games : List Entry) → games ≡ partly 0 plies games
partly-none [] games = refl
partly-none (p ∷ plies) games = refl

-- A block by whose bits its games are in or out already.
pub block-already : (plies : List (Option ℕ)) (before games : List Entry) (k word : ℕ) → length plies ≡ length before
    → games ≡ partly (64 * k) plies before → TellsBlock games k word → AreMarks plies k word → games ≡ partly (64 * k + 64) plies before
block-already plies before games k word same so_far told marks =
    so_far
    ∙ sym (partly-already plies before (64 * k) (64 * k + 64) same (omega arith) (λ i from below there.
    let j : ℕ = i - 64 * k in
    let at : 64 * k + j ≡ i = omega (arith, from) in
    let size : length games ≡ length before = ap (λ (l : List Entry). length l) so_far ∙ length-marks Plies (take (64 * k) plies) before in
    let is : (entry_at games (64 * k + j)).is_in ≡ (entry_at before i).is_in =
    ap (λ (n : ℕ). (entry_at games n).is_in) at
    ∙ ap (λ (l : List Entry). (entry_at l i).is_in) so_far
    ∙ ap (λ (e : Entry). e.is_in) (past-partly plies before (64 * k) i from) in
    sym is
    ∙ sym (told j (omega (arith, below, from)) (omega (arith, at, there, size)))
    ∙ marks j (omega (arith, below, from)) (omega (arith, at, there, same))
    ∙ ap (λ (n : ℕ). is_some (get_or plies n None)) at))

-- The bits of a filter tell of a block that was brought to it.
pub block-told : (plies : List (Option ℕ)) (before games : List Entry) (k n word : ℕ) → length plies ≡ length before
    → games ≡ partly n plies before → (n ≡ 64 * k + 64) ⊎ (n ≡ length plies) → AreMarks plies k word → TellsBlock games k word
block-told plies before games k n word same is end marks = λ j small there.
    let size : length games ≡ length before = ap (λ (l : List Entry). length l) is ∙ length-marks Plies (take n plies) before in
    let below : 64 * k + j < n = elim end [
      | inl past ↦ omega (arith, past, small)
      | inr last ↦ omega (arith, last, there, size, same)
    ] in
    marks j small (omega (arith, there, size, same))
    ∙ sym (below-partly plies before n (64 * k + j) same below (omega (arith, there, size)))
    ∙ ap (λ (l : List Entry). (entry_at l (64 * k + j)).is_in) (sym is)

-- So many games, or all of them.
pub partly-end : (plies : List (Option ℕ)) (before games : List Entry) (n m : ℕ) → games ≡ partly n plies before → (n ≡ m) ⊎ ((n ≡ length plies) × (length plies ≤ m))
    → games ≡ partly m plies before
partly-end plies before games n m is (inl same) = is ∙ ap (λ (k : ℕ). partly k plies before) same
partly-end plies before games n m is (inr last) =
    is ∙ partly-all n plies before (omega (arith, last.0)) ∙ sym (partly-all m plies before last.1)

-- The games outside block k are in or out as before it was brought to the filter.
outside-block : (plies : List (Option ℕ)) (games : List Entry) (k i j : ℕ) → length plies ≡ length games → (i ≡ k → ⊥) → j < 64 → 64 * i + j < length games
    → (entry_at (under (take (64 * k) plies) games) (64 * i + j)).is_in ≡ (entry_at (under (take (64 * k + 64) plies) games) (64 * i + j)).is_in
outside-block plies games k i j same apart small there = elim (cases_lt i k) [
  | inl less ↦
      below-partly plies games (64 * k) (64 * i + j) same (omega (arith, less, small)) there
      ∙ sym (below-partly plies games (64 * k + 64) (64 * i + j) same (omega (arith, less, small)) there)
  | inr more ↦
      let past : k < i = omega (arith, more, apart) in
      ap (λ (e : Entry). e.is_in) (past-partly plies games (64 * k) (64 * i + j) (omega (arith, past)))
      ∙ sym (ap (λ (e : Entry). e.is_in) (past-partly plies games (64 * k + 64) (64 * i + j) (omega (arith, past))))
]

-- So another block tells the same.
pub other-block : (plies : List (Option ℕ)) (before now later : List Entry) (k i word : ℕ) → length plies ≡ length before
    → now ≡ partly (64 * k) plies before → later ≡ partly (64 * k + 64) plies before → (i ≡ k → ⊥) → TellsBlock now i word → TellsBlock later i word
other-block plies before now later k i word same so_far next apart told = λ j small there.
    let size_now : length now ≡ length before = ap (λ (l : List Entry). length l) so_far ∙ length-marks Plies (take (64 * k) plies) before in
    let size_later : length later ≡ length before = ap (λ (l : List Entry). length l) next ∙ length-marks Plies (take (64 * k + 64) plies) before in
    told j small (omega (arith, there, size_now, size_later))
    ∙ ap (λ (l : List Entry). (entry_at l (64 * i + j)).is_in) so_far
    ∙ outside-block plies before k i j same apart small (omega (arith, there, size_later))
    ∙ sym (ap (λ (l : List Entry). (entry_at l (64 * i + j)).is_in) next)

-- The blocks behind a block that was brought to the filter.
pub blocks-after : (blocks : List (Option ℕ)) (block : Option ℕ) (before now later : List Entry) (plies : List (Option ℕ)) (k : ℕ) → k < length blocks
    → length plies ≡ length before → now ≡ partly (64 * k) plies before → later ≡ partly (64 * k + 64) plies before
    → AreBrought blocks now → IfSome block (TellsBlock later k) → AreBrought (set blocks k block) later
blocks-after blocks block before now later plies k there same so_far next brought here i = elim (cases_eq i k) [
  | inl is ↦
      subst (λ (n : ℕ). IfSome (get_or (set blocks k block) n None) (TellsBlock later n)) (sym is)
      (subst (λ (b : Option ℕ). IfSome b (TellsBlock later k)) (sym (get_or-set_same blocks k block None there)) here)
  | inr apart ↦
      subst (λ (b : Option ℕ). IfSome b (TellsBlock later i)) (sym (get_or-set_other blocks k i block None apart))
      (still (get_or blocks i None) (λ word. other-block plies before now later k i word same so_far next apart) (brought i))
]
  where
    still : {P Q : ℕ → Type 0} (b : Option ℕ) → ((word : ℕ) → P word → Q word) → IfSome b P → IfSome b Q
    still None f h = h
    still (Some word) f h = f word h
