-- The bounds of a signature: no more than 15 pawns of a side, since its king is one of its 16 men, and no more than 16 home values.
use Rattle.std.proofs.Common.{◌≡◌, ℕ, ◌+◌, ◌-◌, ◌<◌, ◌≤◌, zero, suc, Bool, true, false, cond, not, ◌&&◌, List, [], ◌∷◌, ◌++◌, length, get_or, min, replicate, Option, None, Some, refl, sym, ◌∙◌, subst, arith, inl, inr}
use Rattle.std.specs.Prelude.{All, count_by, slice_index}
use Rattle.std.specs.List.{filter}
use Rattle.std.proofs.lemmas.Bool.{cases_lt}
use Rattle.std.proofs.lemmas.List.{get_or-append_right, get_or_append_left, get_or-replicate, get_or_past, length-append}
use Rattle.std.proofs.lemmas.List.Elements.{All-nil, All-append, All-get_or}
use Rattle.std.proofs.lemmas.List.Filters.{length-filter_both}
use Rattle.std.proofs.lemmas.List.Sums.{sum_by-cons}
use Rattle.std.proofs.Math.ListN.{length-replicate}
use Rattle.cell_core.specs.declared.man.Colour.{Colour}
use Rattle.cell_core.specs.declared.man.Colour.TheVariants.{White, Black}
use Rattle.cell_core.specs.declared.man.Kind.{Kind}
use Rattle.cell_core.specs.declared.man.Kind.TheVariants.{King, Queen, Rook, Bishop, Knight, Pawn}
use Rattle.cell_core.specs.declared.man.Man.{Man}
use Rattle.cell_core.specs.Board.{Men}
use Rattle.cell_core.specs.Man.{is_man, is_of, same_colour, same_kind}
use Rattle.chess_laws.specs.Counts.{count_of, is_home}
use Rattle.chess_laws.specs.Position.{Sound}
use Rattle.chess_laws.specs.declared.setup.Setup.{Setup}
use Rattle.game_tree.specs.Game.{GameTree}
use Rattle.index_entry.specs.Entry.{AreCounts, AreHomeValues}
use Rattle.std.specs.Prelude.{map}
use Rattle.std.specs.List.{range_with_len}
use Rattle.game_tree.specs.Replay.{plies_of, position_at}
use Rattle.sig_index.specs.Signature.{all_homes, home_list, leaving, left_of, material_of}
use Rattle.sig_index.specs.declared.signature.HomeList.{HomeList}
use Rattle.sig_index.proofs.LeavingLemmas.{All-filter, all_small}

-- ---- counts of men

one_of : (same : Bool) (k : Kind) → cond (same && same_kind k Pawn) 1 0 + cond (same && same_kind k King) 1 0 ≤ cond same 1 0
one_of false k = omega arith
one_of true King = omega arith
one_of true Queen = omega arith
one_of true Rook = omega arith
one_of true Bishop = omega arith
one_of true Knight = omega arith
one_of true Pawn = omega arith

one : (c : Colour) (x : Option Man) → cond (is_man c Pawn x) 1 0 + cond (is_man c King x) 1 0 ≤ cond (is_of c x) 1 0
one c None = omega arith
one c (Some m) = one_of (same_colour m.colour c) m.kind

pawns_and_king : (c : Colour) (men : Men) → count_by (is_man c Pawn) men + count_by (is_man c King) men ≤ count_by (is_of c) men
pawns_and_king c [] = omega arith
pawns_and_king c (x ∷ men) =
    omega (arith, one c x, pawns_and_king c men, sum_by-cons (λ y. cond (is_man c Pawn y) 1 0) x men, sum_by-cons (λ y. cond (is_man c King y) 1 0) x men, sum_by-cons (λ y. cond (is_of c y) 1 0) x men)

few_pawns : (p : Setup) (c : Colour) → Sound p → count_of p.board c Pawn ≤ 15
few_pawns p c sound = omega (arith, pawns_and_king c p.board, sound.kings c, sound.few c)

cut : (n : ℕ) → min n 3 ≤ 3
cut n = omega arith

-- Each number is at most the one at its place.
abbrev pub AtMost : List ℕ → List ℕ → Type 0
AtMost [] [] = Unit {0}
AtMost [] (b ∷ bs) = ⊥
AtMost (x ∷ xs) [] = ⊥
AtMost (x ∷ xs) (b ∷ bs) = (x ≤ b) × AtMost xs bs

at_most : (xs bs : List ℕ) → AtMost xs bs → (i : ℕ) → get_or xs i 0 ≤ get_or bs i 0
at_most [] [] all i = omega arith
at_most [] (b ∷ bs) all i = absurd all
at_most (x ∷ xs) [] all i = absurd all
at_most (x ∷ xs) (b ∷ bs) all zero = all.0
at_most (x ∷ xs) (b ∷ bs) all (suc i) = at_most xs bs all.1 i

rows_bounded : (p : Setup) → Sound p → AreCounts (material_of p.board)
rows_bounded p sound = record {
  size = refl;
  small = at_most (material_of p.board) (3 ∷ 3 ∷ 3 ∷ 3 ∷ 15 ∷ 3 ∷ 3 ∷ 3 ∷ 3 ∷ 15 ∷ []) (
    cut (count_of p.board White Queen),
    (
      cut (count_of p.board White Rook),
      (
        cut (count_of p.board White Bishop),
        (
          cut (count_of p.board White Knight),
          (
            few_pawns p White sound,
            (
              cut (count_of p.board Black Queen),
              (
                cut (count_of p.board Black Rook),
                (
                  cut (count_of p.board Black Bishop),
                  (
                    cut (count_of p.board Black Knight),
                    (few_pawns p Black sound, tt),
                  ),
                ),
              ),
            ),
          ),
        ),
      ),
    ),
  );
}

-- Counts of a position's men are within the bounds.
pub counts_bounded : (p : Setup) (counts : List ℕ) → Sound p → counts ≡ material_of p.board → AreCounts counts
counts_bounded p counts sound same = subst AreCounts (sym same) (rows_bounded p sound)

-- ---- home values

leaving_few : (homes : List ℕ) (positions : List Setup) → length (leaving homes positions) ≤ length homes
leaving_few homes [] = omega arith
leaving_few homes (p ∷ positions) =
    omega (
      arith,
      length-append (filter (λ v. not (is_home p.board v)) homes) (leaving (filter (λ v. is_home p.board v) homes) positions),
      length-filter_both (λ v. is_home p.board v) (λ v. not (is_home p.board v)) (λ _. refl) homes,
      leaving_few (filter (λ v. is_home p.board v) homes) positions,
    )

leaving_small : (homes : List ℕ) (positions : List Setup) → All (λ v. v < 16) homes → All (λ v. v < 16) (leaving homes positions)
leaving_small homes [] all = All-nil (λ v. v < 16)
leaving_small homes (p ∷ positions) all =
    All-append (λ v. v < 16) (filter (λ v. not (is_home p.board v)) homes) (leaving (filter (λ v. is_home p.board v) homes) positions)
    (All-filter (λ v. not (is_home p.board v)) homes all)
    (leaving_small (filter (λ v. is_home p.board v) homes) positions (All-filter (λ v. is_home p.board v) homes all))

zeros : (n i : ℕ) → slice_index (replicate n 0) i ≡ 0
zeros n i = elim (cases_lt i n) [
  | inl under ↦ get_or-replicate n i 0 0 under
  | inr past ↦ get_or_past (replicate n 0) i 0 (omega (arith, length-replicate {A = ℕ} n 0))
]

padded_past : (values : List ℕ) (i : ℕ) → length values ≤ i → get_or (values ++ replicate (16 - length values) 0) i 0 ≡ 0
padded_past values i past = get_or-append_right values (replicate (16 - length values) 0) (length values) i 0 refl past ∙ zeros (16 - length values) (i - length values)

padded_small : (values : List ℕ) (i : ℕ) → All (λ v. v < 16) values → get_or (values ++ replicate (16 - length values) 0) i 0 < 16
padded_small values i all = elim (cases_lt i (length values)) [
  | inl under ↦ subst (λ v. v < 16) (sym (get_or_append_left values (replicate (16 - length values) 0) 0 i under)) (All-get_or (λ v. v < 16) values i 0 under all)
  | inr past ↦ omega (arith, padded_past values i past)
]

homes_bounded : (values : List ℕ) → length values ≤ 16 → All (λ v. v < 16) values → AreHomeValues (length values) (values ++ replicate (16 - length values) 0)
homes_bounded values few all = record {
  size = omega (arith, length-append values (replicate (16 - length values) 0), length-replicate {A = ℕ} (16 - length values) 0);
  small = λ i. padded_small values i all;
  past = λ i. padded_past values i;
}

-- A list of home values that are few and small is within the bounds.
pub few_homes : (list : HomeList) (values : List ℕ) → list ≡ home_list values → length values ≤ 16 → list.count ≤ 16
few_homes list values same few = subst (λ (l : HomeList). l.count ≤ 16) (sym same) few

pub small_homes : (list : HomeList) (values : List ℕ) → list ≡ home_list values → length values ≤ 16 → All (λ v. v < 16) values
    → AreHomeValues list.count list.values
small_homes list values same few all = subst (λ (l : HomeList). AreHomeValues l.count l.values) (sym same) (homes_bounded values few all)

pub no_homes : All (λ v. v < 16) []
no_homes = All-nil (λ v. v < 16)

pub few_left : (game : GameTree) → length (left_of game) ≤ 16
few_left game = leaving_few all_homes (map (position_at game) (range_with_len 1 (plies_of game)))

pub small_left : (game : GameTree) → All (λ v. v < 16) (left_of game)
small_left game = leaving_small all_homes (map (position_at game) (range_with_len 1 (plies_of game))) all_small
