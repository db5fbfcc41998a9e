-- A move takes at most two values out: first the one with the higher own square, since values rise as their own squares fall.
use Rattle.std.proofs.Common.{◌≡◌, ◌≢◌, ◌⊎◌, inl, inr, ℕ, zero, suc, ◌+◌, ◌<◌, ◌≤◌, Bool, true, false, true≢false, cond, not, eqb, eq-eqb, List, [], ◌∷◌, ◌++◌, length, refl, sym, ap, ◌∙◌, subst, arith, set}
use Rattle.std.specs.Prelude.{All, ◌||◌, ◌&&◌, ◌==◌, nat_le, nat_lt, slice_index_or}
use Rattle.std.specs.List.{filter, list_all, range_with_len}
use Rattle.std.proofs.lemmas.Bool.{and_parts, cases_Bool, cases_eq, eqb-true, leb-true, ltb-true, or_cases}
use Rattle.std.proofs.lemmas.Bool.Decides.{nat_tests}
use Rattle.std.proofs.lemmas.List.{get_or-set_other}
use Rattle.std.proofs.lemmas.List.Elements.{All-nil, All-cons, All-head, All-tail}
use Rattle.std.proofs.lemmas.List.Filters.{length-filter_both}
use Rattle.cell_core.specs.declared.step.Move.{Move}
use Rattle.chess_laws.specs.Castling.{touches}
use Rattle.chess_laws.specs.Counts.{home_square}
use Rattle.sig_index.specs.Leaving.{AreMarked, are_own, at_square, gone, is_own, marked_homes, off_square, stays, staying, value_of}
use Rattle.sig_index.specs.Signature.{all_homes}
use Rattle.sig_index.proofs.LeavingLemmas.{all_small, all_true, filter_same, same_tests}
use Rattle.sig_index.proofs.StayLemmas.{all_pass, filter-home}

-- ---- tests one behind the other

both-by : (t u : Bool) (x : ℕ) (f : ℕ → Bool) (rest : List ℕ) → f x ≡ u → filter f (cond t (x ∷ rest) rest) ≡ cond (t && u) (x ∷ filter f rest) (filter f rest)
both-by true u x f rest is = ap (λ (b : Bool). cond b (x ∷ filter f rest) (filter f rest)) is
both-by false u x f rest is = refl

filter-both : (f g : ℕ → Bool) (xs : List ℕ) → filter f (filter g xs) ≡ filter (λ v. g v && f v) xs
filter-both f g [] = refl
filter-both f g (x ∷ xs) =
    both-by (g x) (f x) x f (filter g xs) refl ∙ ap (λ (rest : List ℕ). cond (g x && f x) (x ∷ rest) rest) (filter-both f g xs)

filter-none : (f : ℕ → Bool) (xs : List ℕ) → All (λ v. f v ≡ false) xs → filter f xs ≡ []
filter-none f [] all = refl
filter-none f (x ∷ xs) all =
    ap (λ t. cond t (x ∷ filter f xs) (filter f xs)) (All-head (λ v. f v ≡ false) x xs all) ∙ filter-none f xs (All-tail (λ v. f v ≡ false) x xs all)

all-more : (P : ℕ → Type 0) (t : Bool) (x : ℕ) (xs : List ℕ) → P x → All P xs → All P (cond t (x ∷ xs) xs)
all-more P true x xs here all = All-cons P x xs here all
all-more P false x xs here all = all

all-filter : (P : ℕ → Type 0) (f : ℕ → Bool) (xs : List ℕ) → All P xs → All P (filter f xs)
all-filter P f [] all = All-nil P
all-filter P f (x ∷ xs) all = all-more P (f x) x (filter f xs) (All-head P x xs all) (all-filter P f xs (All-tail P x xs all))

all-map : (P Q : ℕ → Type 0) → ((v : ℕ) → P v → Q v) → (xs : List ℕ) → All P xs → All Q xs
all-map P Q each [] all = All-nil Q
all-map P Q each (x ∷ xs) all = All-cons Q x xs (each x (All-head P x xs all)) (all-map P Q each xs (All-tail P x xs all))

apart-false : (i j : ℕ) → i ≢ j → (i == j) ≡ false
apart-false i j apart = elim (cases_Bool (eqb i j)) [
  | inl same ↦ absurd (apart (eqb-true i j same))
  | inr other ↦ other
]

and-false : (b : Bool) → b && false ≡ false
and-false true = refl
and-false false = refl

and-true : (b : Bool) → b && true ≡ b
and-true true = refl
and-true false = refl

-- ---- one number of a range

none-below : (a n v : ℕ) → v < a → filter (λ x. v == x) (range_with_len a n) ≡ []
none-below a zero v less = refl
none-below a (suc n) v less =
    ap (λ t. cond t (a ∷ filter (λ x. v == x) (range_with_len (a + 1) n)) (filter (λ x. v == x) (range_with_len (a + 1) n)))
    (apart-false v a (λ same. omega (arith, same, less)))
    ∙ none-below (a + 1) n v (omega (arith, less))

one-of : (a n v : ℕ) → a ≤ v → v < a + n → filter (λ x. v == x) (range_with_len a n) ≡ v ∷ []
one-of a zero v low high = absurd (omega (arith, low, high))
one-of a (suc n) v low high =
    elim (cases_eq v a) [
      | inl same ↦
          ap (λ t. cond t (a ∷ filter (λ x. v == x) (range_with_len (a + 1) n)) (filter (λ x. v == x) (range_with_len (a + 1) n))) (eq-eqb v a same)
          ∙ (ap (λ (rest : List ℕ). a ∷ rest) (none-below (a + 1) n v (omega (arith, same))) ∙ ap (λ (x : ℕ). x ∷ []) (sym same))
      | inr apart ↦
          ap (λ t. cond t (a ∷ filter (λ x. v == x) (range_with_len (a + 1) n)) (filter (λ x. v == x) (range_with_len (a + 1) n))) (apart-false v a apart)
          ∙ one-of (a + 1) n v (omega (arith, low, apart)) (omega (arith, high))
    ]

-- ---- the value of an own square

IsOwn : ℕ → Type 0
IsOwn s = ((8 ≤ s) × (s < 16)) ⊎ ((48 ≤ s) × (s < 56))

own-rank : (s : ℕ) → is_own s ≡ true → IsOwn s
unfolding IsOwn
own-rank s own = elim (or_cases (nat_le 8 s && nat_lt s 16) (nat_le 48 s && nat_lt s 56) own) [
  | inl white ↦ let parts = and_parts (nat_le 8 s) (nat_lt s 16) white in inl (leb-true 8 s parts.0, ltb-true s 16 parts.1)
  | inr black ↦ let parts = and_parts (nat_le 48 s) (nat_lt s 56) black in inr (leb-true 48 s parts.0, ltb-true s 56 parts.1)
]

own-first : (mark own : Bool) → not mark || own ≡ true → mark ≡ true → own ≡ true
own-first true own h is = h
own-first false own h is = absurd (true≢false (sym is))

own-at : (k : ℕ) (marks : List Bool) (s : ℕ) → are_own k marks ≡ true → slice_index_or marks s false ≡ true → is_own (k + s) ≡ true
own-at k [] s own mark = absurd (true≢false (sym mark))
own-at k (x ∷ xs) zero own mark =
    let parts = and_parts (not x || is_own k) (are_own (k + 1) xs) own in
    let same : k ≡ k + 0 = omega arith in
    subst (λ (n : ℕ). is_own n ≡ true) same (own-first x (is_own k) parts.0 mark)
own-at k (x ∷ xs) (suc s) own mark =
    let parts = and_parts (not x || is_own k) (are_own (k + 1) xs) own in
    let same : (k + 1) + s ≡ k + suc s = omega arith in
    subst (λ (n : ℕ). is_own n ≡ true) same (own-at (k + 1) xs s parts.1 mark)

pub own-marked : (marks : List Bool) (s : ℕ) → are_own 0 marks ≡ true → slice_index_or marks s false ≡ true → is_own s ≡ true
own-marked marks s own mark =
    let same : 0 + s ≡ s = omega arith in
    subst (λ (n : ℕ). is_own n ≡ true) same (own-at 0 marks s own mark)

own-set : (k : ℕ) (marks : List Bool) (s : ℕ) → are_own k marks ≡ true → are_own k (set marks s false) ≡ true
own-set k [] s own = own
own-set k (x ∷ xs) zero own = (and_parts (not x || is_own k) (are_own (k + 1) xs) own).1
own-set k (x ∷ xs) (suc s) own =
    let parts = and_parts (not x || is_own k) (are_own (k + 1) xs) own in
    ap (λ (b : Bool). b && are_own (k + 1) (set xs s false)) parts.0 ∙ own-set (k + 1) xs s parts.1

pub own-behind : (marks : List Bool) (s : ℕ) → are_own 0 marks ≡ true → are_own 0 (set marks s false) ≡ true
own-behind marks s own = own-set 0 marks s own

value-small : (s : ℕ) → IsOwn s → value_of s < 16
unfolding IsOwn
value-small s (inl white) = grind (arith, nat_tests)
value-small s (inr black) = grind (arith, nat_tests)

square-value : (s v : ℕ) → IsOwn s → v < 16 → s ≡ home_square v → value_of s ≡ v
unfolding IsOwn
square-value s v (inl white) small is = grind (arith, nat_tests)
square-value s v (inr black) small is = grind (arith, nat_tests)

value-square : (s v : ℕ) → IsOwn s → value_of s ≡ v → s ≡ home_square v
unfolding IsOwn
value-square s v (inl white) is = grind (arith, nat_tests)
value-square s v (inr black) is = grind (arith, nat_tests)

value-test : (s v : ℕ) → IsOwn s → v < 16 → (s == home_square v) ≡ (value_of s == v)
value-test s v own small =
    same_tests (s == home_square v) (value_of s == v) (λ e. eq-eqb (value_of s) v (square-value s v own small (eqb-true s (home_square v) e)))
    (λ e. eq-eqb s (home_square v) (value-square s v own (eqb-true (value_of s) v e)))

at-home : (s : ℕ) → IsOwn s → at_square s all_homes ≡ value_of s ∷ []
unfolding at_square
at-home s own =
    filter_same (λ v. s == home_square v) (λ v. value_of s == v) all_homes all_small (λ v small. value-test s v own small)
    ∙ one-of 0 16 (value_of s) (omega arith) (value-small s own)

-- ---- one square

pub homes-marked : (marks : List Bool) → AreMarked marks (marked_homes marks)
unfolding marked_homes
homes-marked marks = filter-home (λ v. slice_index_or marks (home_square v) false) all_homes

marked-there : (marks : List Bool) (s v : ℕ) (t : Bool) → (s == home_square v) ≡ t → slice_index_or marks s false ≡ true → slice_index_or marks (home_square v) false && t ≡ t
marked-there marks s v true is mark = ap (λ (n : ℕ). slice_index_or marks n false && true) (sym (eqb-true s (home_square v) is)) ∙ ap (λ b. b && true) mark
marked-there marks s v false is mark = and-false (slice_index_or marks (home_square v) false)

at-all : (marks : List Bool) (s : ℕ) → slice_index_or marks s false ≡ true → at_square s (marked_homes marks) ≡ at_square s all_homes
unfolding at_square marked_homes
at-all marks s mark =
    filter-both (λ v. s == home_square v) (λ v. slice_index_or marks (home_square v) false) all_homes
    ∙ filter_same (λ v. slice_index_or marks (home_square v) false && (s == home_square v)) (λ v. s == home_square v) all_homes all_small
    (λ v small. marked-there marks s v (s == home_square v) refl mark)

pub at-marked : (marks : List Bool) (s : ℕ) → are_own 0 marks ≡ true → slice_index_or marks s false ≡ true → at_square s (marked_homes marks) ≡ value_of s ∷ []
at-marked marks s own mark = at-all marks s mark ∙ at-home s (own-rank s (own-marked marks s own mark))

not-there : (marks : List Bool) (s v : ℕ) → slice_index_or marks s false ≡ false → slice_index_or marks (home_square v) false ≡ true → (s == home_square v) ≡ false
not-there marks s v none mark = apart-false s (home_square v) (λ same. true≢false (sym mark ∙ ap (λ (n : ℕ). slice_index_or marks n false) (sym same) ∙ none))

none-there : (marks : List Bool) (s : ℕ) → slice_index_or marks s false ≡ false → All (λ v. (s == home_square v) ≡ false) (marked_homes marks)
none-there marks s none =
    all-map (λ v. slice_index_or marks (home_square v) false ≡ true) (λ v. (s == home_square v) ≡ false) (λ v mark. not-there marks s v none mark) (marked_homes marks)
    (homes-marked marks)

pub at-unmarked : (marks : List Bool) (s : ℕ) → slice_index_or marks s false ≡ false → at_square s (marked_homes marks) ≡ []
unfolding at_square
at-unmarked marks s none = filter-none (λ v. s == home_square v) (marked_homes marks) (none-there marks s none)

pub off-unmarked : (marks : List Bool) (s : ℕ) → slice_index_or marks s false ≡ false → off_square s (marked_homes marks) ≡ marked_homes marks
unfolding off_square
off-unmarked marks s none =
    all_pass (λ v. not (s == home_square v)) (marked_homes marks)
    (all-map (λ v. (s == home_square v) ≡ false) (λ v. not (s == home_square v) ≡ true) (λ v e. ap not e) (marked_homes marks) (none-there marks s none))

no-mark : (marks : List Bool) (s : ℕ) → slice_index_or (set marks s false) s false ≡ false
no-mark [] s = refl
no-mark (x ∷ xs) zero = refl
no-mark (x ∷ xs) (suc s) = no-mark xs s

mark-behind : (marks : List Bool) (s v : ℕ) (t : Bool) → (s == home_square v) ≡ t
    → slice_index_or marks (home_square v) false && not t ≡ slice_index_or (set marks s false) (home_square v) false
mark-behind marks s v true is =
    and-false (slice_index_or marks (home_square v) false)
    ∙ sym (ap (λ (n : ℕ). slice_index_or (set marks s false) n false) (sym (eqb-true s (home_square v) is)) ∙ no-mark marks s)
mark-behind marks s v false is =
    and-true (slice_index_or marks (home_square v) false)
    ∙ sym (get_or-set_other marks s (home_square v) false false (λ same. true≢false (sym (eq-eqb s (home_square v) (sym same)) ∙ is)))

pub off-marked : (marks : List Bool) (s : ℕ) → marked_homes (set marks s false) ≡ off_square s (marked_homes marks)
unfolding off_square marked_homes
off-marked marks s =
    sym (filter-both (λ v. not (s == home_square v)) (λ v. slice_index_or marks (home_square v) false) all_homes
    ∙ filter_same (λ v. slice_index_or marks (home_square v) false && not (s == home_square v)) (λ v. slice_index_or (set marks s false) (home_square v) false)
    all_homes all_small (λ v small. mark-behind marks s v (s == home_square v) refl))

pub off-at-length : (s : ℕ) (homes : List ℕ) → length (off_square s homes) + length (at_square s homes) ≡ length homes
unfolding off_square at_square
off-at-length s homes =
    let halves = length-filter_both (λ v. s == home_square v) (λ v. not (s == home_square v)) (λ _. refl) homes in
    omega (arith, halves)

-- ---- two squares

-- The own squares of the values fall.
abbrev Falls : List ℕ → Type 0
Falls [] = Unit {0}
Falls (x ∷ xs) = All (λ y. home_square y < home_square x) xs × Falls xs

abbrev falls_now : List ℕ → Bool
falls_now [] = true
falls_now (x ∷ xs) = list_all (λ y. nat_lt (home_square y) (home_square x)) xs && falls_now xs

falls-now : (xs : List ℕ) → falls_now xs ≡ true → Falls xs
falls-now [] h = tt
falls-now (x ∷ xs) h =
    let parts = and_parts (list_all (λ y. nat_lt (home_square y) (home_square x)) xs) (falls_now xs) h in (
      all-map (λ y. nat_lt (home_square y) (home_square x) ≡ true) (λ y. home_square y < home_square x) (λ y less. ltb-true (home_square y) (home_square x) less) xs
          (all_true (λ y. nat_lt (home_square y) (home_square x)) xs parts.0),
      falls-now xs parts.1,
    )

falls-more : (t : Bool) (x : ℕ) (xs : List ℕ) → All (λ y. home_square y < home_square x) xs → Falls xs → Falls (cond t (x ∷ xs) xs)
falls-more true x xs below falls = (below, falls)
falls-more false x xs below falls = falls

falls-filter : (f : ℕ → Bool) (xs : List ℕ) → Falls xs → Falls (filter f xs)
falls-filter f [] falls = tt
falls-filter f (x ∷ xs) falls =
    falls-more (f x) x (filter f xs) (all-filter (λ y. home_square y < home_square x) f xs falls.0) (falls-filter f xs falls.1)

marked-fall : (marks : List Bool) → Falls (marked_homes marks)
unfolding marked_homes
marked-fall marks = falls-filter (λ v. slice_index_or marks (home_square v) false) all_homes (falls-now all_homes refl)

split-by : (t u : Bool) (high low x : ℕ) (xs : List ℕ) → (high == home_square x) ≡ t → (low == home_square x) ≡ u → low ≤ high → All (λ y. home_square y < home_square x) xs
    → (whole first rest : List ℕ) → first ≡ filter (λ v. high == home_square v) xs → whole ≡ first ++ rest
    → cond (t || u) (x ∷ whole) whole ≡ cond t (x ∷ first) first ++ cond (not t && u) (x ∷ rest) rest
split-by true u high low x xs at below order falls whole first rest first_is ih = ap (λ (l : List ℕ). x ∷ l) ih
split-by false true high low x xs at here order falls whole first rest first_is ih =
    let square : low ≡ home_square x = eqb-true low (home_square x) here in
    let none : first ≡ [] =
    first_is
    ∙ filter-none (λ v. high == home_square v) xs
    (all-map (λ y. home_square y < home_square x) (λ y. (high == home_square y) ≡ false)
    (λ y less. apart-false high (home_square y) (λ same. omega (arith, square, less, same, order))) xs falls)
    in
    ap (λ (l : List ℕ). x ∷ l) ih ∙ (ap (λ (l : List ℕ). x ∷ (l ++ rest)) none ∙ ap (λ (l : List ℕ). l ++ x ∷ rest) (sym none))
split-by false false high low x xs at here order falls whole first rest first_is ih = ih

split : (high low : ℕ) (xs : List ℕ) → low ≤ high → Falls xs
    → filter (λ v. (high == home_square v) || (low == home_square v)) xs
    ≡ filter (λ v. high == home_square v) xs ++ filter (λ v. not (high == home_square v) && (low == home_square v)) xs
split high low [] order falls = refl
split high low (x ∷ xs) order falls =
    split-by (high == home_square x) (low == home_square x) high low x xs refl refl order falls.0
    (filter (λ v. (high == home_square v) || (low == home_square v)) xs) (filter (λ v. high == home_square v) xs)
    (filter (λ v. not (high == home_square v) && (low == home_square v)) xs) refl (split high low xs order falls.1)

at-two : (high low : ℕ) (homes : List ℕ) → low ≤ high → Falls homes
    → filter (λ v. (high == home_square v) || (low == home_square v)) homes ≡ at_square high homes ++ at_square low (off_square high homes)
unfolding at_square off_square
at-two high low homes order falls =
    split high low homes order falls
    ∙ ap (λ (l : List ℕ). filter (λ v. high == home_square v) homes ++ l) (sym (filter-both (λ v. low == home_square v) (λ v. not (high == home_square v)) homes))

not-not : (b : Bool) → not (not b) ≡ b
not-not true = refl
not-not false = refl

or-turned : (a b : Bool) → a || b ≡ b || a
or-turned true true = refl
or-turned true false = refl
or-turned false true = refl
or-turned false false = refl

neither : (a b : Bool) → not a && not b ≡ not (a || b)
neither true b = refl
neither false b = refl

-- What a move takes out where it ends at the higher of its squares, or begins there.
pub gone-to : (m : Move) (marks : List Bool) → m.from < m.to → at_square m.to (marked_homes marks) ++ at_square m.from (off_square m.to (marked_homes marks)) ≡ gone m (marked_homes marks)
unfolding gone
gone-to m marks less =
    sym ((λ i. filter (λ v. (not-not (touches m (home_square v)) ∙ or-turned (m.from == home_square v) (m.to == home_square v)) i) (marked_homes marks))
    ∙ at-two m.to m.from (marked_homes marks) (omega (arith, less)) (marked-fall marks))

pub gone-from : (m : Move) (marks : List Bool) → m.to ≤ m.from → at_square m.from (marked_homes marks) ++ at_square m.to (off_square m.from (marked_homes marks)) ≡ gone m (marked_homes marks)
unfolding gone
gone-from m marks order =
    sym ((λ i. filter (λ v. not-not (touches m (home_square v)) i) (marked_homes marks))
    ∙ at-two m.from m.to (marked_homes marks) order (marked-fall marks))

pub stay-to : (m : Move) (homes : List ℕ) → off_square m.from (off_square m.to homes) ≡ staying m homes
unfolding off_square staying
stay-to m homes =
    filter-both (λ v. not (m.from == home_square v)) (λ v. not (m.to == home_square v)) homes
    ∙ (λ i. filter (λ v. (neither (m.to == home_square v) (m.from == home_square v) ∙ ap not (or-turned (m.to == home_square v) (m.from == home_square v))) i) homes)

pub stay-from : (m : Move) (homes : List ℕ) → off_square m.to (off_square m.from homes) ≡ staying m homes
unfolding off_square staying
stay-from m homes =
    filter-both (λ v. not (m.to == home_square v)) (λ v. not (m.from == home_square v)) homes
    ∙ (λ i. filter (λ v. neither (m.from == home_square v) (m.to == home_square v) i) homes)
