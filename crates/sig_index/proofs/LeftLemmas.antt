-- The home values of the pawns that left: each is there at most once.
use Rattle.std.proofs.Common.{◌≡◌, ◌≢◌, ℕ, ◌+◌, ◌<◌, ◌≤◌, zero, suc, Bool, true, false, cond, not, List, [], ◌∷◌, eqb, refl, ap, ◌∙◌, arith, inl, inr}
use Rattle.std.specs.Prelude.{count_by}
use Rattle.std.specs.List.{filter, range_with_len}
use Rattle.std.proofs.lemmas.Bool.{cases_eq, ne_eqb}
use Rattle.std.proofs.lemmas.List.Sums.{sum_by-append, sum_by-cons}
use Rattle.chess_laws.specs.Counts.{is_home}
use Rattle.chess_laws.specs.declared.setup.Setup.{Setup}
use Rattle.game_tree.specs.Game.{GameTree}
use Rattle.std.specs.Prelude.{map}
use Rattle.game_tree.specs.Replay.{plies_of, position_at}
use Rattle.sig_index.specs.Signature.{all_homes, leaving, left_of}

abbrev is_it : ℕ → ℕ → ℕ
is_it v x = cond (eqb v x) 1 0

parted_at : (t : Bool) (v x : ℕ) (ys zs xs : List ℕ) → count_by (eqb v) ys + count_by (eqb v) zs ≡ count_by (eqb v) xs
    → count_by (eqb v) (cond t (x ∷ ys) ys) + count_by (eqb v) (cond (not t) (x ∷ zs) zs) ≡ count_by (eqb v) (x ∷ xs)
parted_at true v x ys zs xs h = omega (arith, h, sum_by-cons (is_it v) x ys, sum_by-cons (is_it v) x xs)
parted_at false v x ys zs xs h = omega (arith, h, sum_by-cons (is_it v) x zs, sum_by-cons (is_it v) x xs)

-- A value is among those that pass a test and those that do not as often as among all.
parted : (f : ℕ → Bool) (v : ℕ) (xs : List ℕ) → count_by (eqb v) (filter f xs) + count_by (eqb v) (filter (λ x. not (f x)) xs) ≡ count_by (eqb v) xs
parted f v [] = refl
parted f v (x ∷ xs) = parted_at (f x) v x (filter f xs) (filter (λ x. not (f x)) xs) xs (parted f v xs)

-- A value leaves no more often than it is there.
leaving_once : (v : ℕ) (homes : List ℕ) (positions : List Setup) → count_by (eqb v) (leaving homes positions) ≤ count_by (eqb v) homes
leaving_once v homes [] = omega arith
leaving_once v homes (p ∷ positions) =
    omega (
      arith,
      parted (λ x. is_home p.board x) v homes,
      leaving_once v (filter (λ x. is_home p.board x) homes) positions,
      sum_by-append (is_it v) (filter (λ x. not (is_home p.board x)) homes) (leaving (filter (λ x. is_home p.board x) homes) positions),
    )

at_most_one : (t : Bool) → cond t 1 0 ≤ 1
at_most_one true = omega arith
at_most_one false = omega arith

none_at : (v a : ℕ) → v ≢ a → is_it v a ≡ 0
none_at v a apart = ap (λ t. cond t 1 0) (ne_eqb v a apart)

one_more : (v a rest : ℕ) → (v < a + 1 → rest ≡ 0) → rest ≤ 1 → is_it v a + rest ≤ 1
one_more v a rest none few = elim (cases_eq v a) [
  | inl same ↦ omega (arith, none (omega (arith, same)), at_most_one (eqb v a))
  | inr apart ↦ omega (arith, none_at v a apart, few)
]

none_more : (v a rest : ℕ) → v < a → rest ≡ 0 → is_it v a + rest ≡ 0
none_more v a rest under none = omega (arith, none_at v a (λ e. omega (arith, e, under)), none)

-- A value is at most once among numbers that follow each other, and not among those from a greater one on.
in_range : (v a n : ℕ) → (v < a → count_by (eqb v) (range_with_len a n) ≡ 0) × (count_by (eqb v) (range_with_len a n) ≤ 1)
in_range v a zero = (λ under. refl, omega arith)
in_range v a (suc n) =
    let rest = in_range v (a + 1) n in
    let whole = sum_by-cons (is_it v) a (range_with_len (a + 1) n) in (
      λ under. whole ∙ none_more v a (count_by (eqb v) (range_with_len (a + 1) n)) under (rest.0 (omega (arith, under))),
      omega (arith, whole, one_more v a (count_by (eqb v) (range_with_len (a + 1) n)) rest.0 rest.1),
    )

pub left_once : (game : GameTree) (v : ℕ) → count_by (eqb v) (left_of game) ≤ 1
left_once game v = omega (arith, leaving_once v all_homes (map (position_at game) (range_with_len 1 (plies_of game))), (in_range v 0 16).1)
