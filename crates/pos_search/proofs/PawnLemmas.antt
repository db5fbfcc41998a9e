-- The pawns of two boards as sets of squares.
use Rattle.std.proofs.Common.{◌≡◌, ℕ, zero, suc, ◌+◌, ◌<◌, ◌==◌, ◌&&◌, eqb, Bool, true, false, cond, length, Option, Some, None, refl, sym, ap, ◌∙◌, arith, inl, inr}
use Rattle.std.specs.Int.{bit_at}
use Rattle.std.specs.Option.{option_eq}
use Rattle.std.proofs.lemmas.Bool.{and_parts, cases_Bool, cases_lt, eq-eqb, eqb-true, false≢true}
use Rattle.std.proofs.lemmas.List.{get_or_past}
use Rattle.cell_core.specs.declared.man.Colour.{Colour}
use Rattle.cell_core.specs.declared.man.Colour.TheVariants.{White, Black}
use Rattle.cell_core.specs.declared.man.Kind.TheVariants.{Pawn}
use Rattle.cell_core.specs.declared.man.Man.{Man}
use Rattle.cell_core.specs.Board.{Men, man_at}
use Rattle.cell_core.specs.Man.{is_man, same_colour}
use Rattle.cell_core.specs.Sets.{set_of}
use Rattle.cell_core.proofs.Squares.{bit-set_of, set-is}
use Rattle.chess_laws.specs.Geometry.{square}
use Rattle.sig_index.proofs.Ranges.{all_each, all_from}
use Rattle.pos_search.specs.Columns.{on_file, same_number, same_numbers}
use Rattle.pos_search.specs.Matching.{pawn_on, pawns_below, same_files, same_pawn, same_pawns}
use Rattle.pos_search.proofs.MatchLemmas.{files_all, files_each, is_side, pawns_all, same_side, side_is}

-- ---- by files

pub numbers_all : (a b : ℕ) → ((file : ℕ) → file < 8 → same_number a b file ≡ true) → true ≡ same_numbers a b
unfolding same_numbers
numbers_all a b each = sym (all_from (same_number a b) 0 8 (λ file from less. each file less))

numbers_each : (a b file : ℕ) → same_numbers a b ≡ true → file < 8 → same_number a b file ≡ true
unfolding same_numbers
numbers_each a b file same less = all_each (same_number a b) 0 8 file same (omega arith) less

-- So many pawns as squares of their set.
pawns-on_file : (men : Men) (c : Colour) (file n : ℕ) → on_file (set_of (is_man c Pawn) men) file n ≡ pawns_below men c file n
pawns-on_file men c file zero = refl
pawns-on_file men c file (suc n) = λ i. pawns-on_file men c file n i + bit-set_of (is_man c Pawn) refl men (square file n) i

pawns-number : (a b : Men) (c : Colour) (own other file : ℕ) → own ≡ set_of (is_man c Pawn) a → other ≡ set_of (is_man c Pawn) b
    → same_number own other file ≡ (pawns_below a c file 8 == pawns_below b c file 8)
pawns-number a b c own other file own_is other_is =
    (λ i. same_number (own_is i) (other_is i) file) ∙ (λ i. pawns-on_file a c file 8 i == pawns-on_file b c file 8 i)

-- What the sets tell of the files of two boards.
pub files-told : (a b : Men) (own other black black' : ℕ) → own ≡ set_of (is_man White Pawn) a → other ≡ set_of (is_man White Pawn) b
    → black ≡ set_of (is_man Black Pawn) a → black' ≡ set_of (is_man Black Pawn) b → (same_numbers own other && same_numbers black black') ≡ same_files a b
files-told a b own other black black' own_is other_is black_is black_is' = elim (cases_Bool (same_numbers own other && same_numbers black black')) [
  | inl same ↦
      let both = and_parts (same_numbers own other) (same_numbers black black') same in
      same ∙ files_all a b (λ file less.
      both-true (sym (pawns-number a b White own other file own_is other_is) ∙ numbers_each own other file both.0 less)
      (sym (pawns-number a b Black black black' file black_is black_is') ∙ numbers_each black black' file both.1 less))
  | inr differs ↦
      elim (cases_Bool (same_files a b)) [
        | inl same ↦ absurd (false≢true (sym differs ∙ from-files same))
        | inr apart ↦ differs ∙ sym apart
      ]
]
  where
    both-true : {s t : Bool} → s ≡ true → t ≡ true → (s && t) ≡ true
    both-true one two = λ i. one i && two i

    on : (file : ℕ) → same_files a b ≡ true → file < 8 → (same_number own other file ≡ true) × (same_number black black' file ≡ true)
    on file same less =
        let here = and_parts (pawns_below a White file 8 == pawns_below b White file 8) (pawns_below a Black file 8 == pawns_below b Black file 8) (files_each a b file same less) in
        (pawns-number a b White own other file own_is other_is ∙ here.0, pawns-number a b Black black black' file black_is black_is' ∙ here.1)

    from-files : same_files a b ≡ true → (same_numbers own other && same_numbers black black') ≡ true
    from-files same = both-true (sym (numbers_all own other (λ file less. (on file same less).0))) (sym (numbers_all black black' (λ file less. (on file same less).1)))

-- ---- on the same squares

-- Boards with the same pawns have the same sets of them.
pub sets-same : (a b : Men) → length a ≡ 64 → length b ≡ 64 → same_pawns a b ≡ true → (c : Colour) → set_of (is_man c Pawn) a ≡ set_of (is_man c Pawn) b
unfolding same_pawns
sets-same a b squares squares' same c =
    set-is (is_man c Pawn) refl b (set_of (is_man c Pawn) a) (λ i. bit-set_of (is_man c Pawn) refl a i ∙ ap (λ (t : Bool). cond t 1 0) (on i))
  where
    on : (i : ℕ) → is_man c Pawn (man_at a i) ≡ is_man c Pawn (man_at b i)
    on i = elim (cases_lt i 64) [
      | inl less ↦
          let here = all_each (same_pawn a b) 0 64 i same (omega arith) less in
          side_is c (man_at a i) ∙ ap (is_side c) (same_side (pawn_on (man_at a i)) (pawn_on (man_at b i)) here) ∙ sym (side_is c (man_at b i))
      | inr past ↦
          ap (is_man c Pawn) (get_or_past a i None (omega (arith, squares, past)) ∙ sym (get_or_past b i None (omega (arith, squares', past))))
    ]

-- A pawn of each side stands on a square of both boards or of none.
same-on : (x y : Option Man) → is_man White Pawn x ≡ is_man White Pawn y → is_man Black Pawn x ≡ is_man Black Pawn y → option_eq same_colour (pawn_on x) (pawn_on y) ≡ true
unfolding is_side
same-on x y white black = by (pawn_on x) (pawn_on y) (sym (side_is White x) ∙ white ∙ side_is White y) (sym (side_is Black x) ∙ black ∙ side_is Black y)
  where
    by : (p q : Option Colour) → is_side White p ≡ is_side White q → is_side Black p ≡ is_side Black q → option_eq same_colour p q ≡ true
    by None None white black = refl
    by None (Some White) white black = absurd (false≢true white)
    by None (Some Black) white black = absurd (false≢true black)
    by (Some White) None white black = absurd (false≢true (sym white))
    by (Some Black) None white black = absurd (false≢true (sym black))
    by (Some White) (Some White) white black = refl
    by (Some White) (Some Black) white black = absurd (false≢true (sym white))
    by (Some Black) (Some White) white black = absurd (false≢true white)
    by (Some Black) (Some Black) white black = refl

set-at : (a b : Men) (c : Colour) (i : ℕ) → set_of (is_man c Pawn) a ≡ set_of (is_man c Pawn) b → is_man c Pawn (man_at a i) ≡ is_man c Pawn (man_at b i)
set-at a b c i same =
    bit-told (is_man c Pawn (man_at a i)) (is_man c Pawn (man_at b i))
    (sym (bit-set_of (is_man c Pawn) refl a i) ∙ ap (λ (set : ℕ). bit_at set i) same ∙ bit-set_of (is_man c Pawn) refl b i)
  where
    bit-told : (s t : Bool) → ◌≡◌ {A = ℕ} (cond s 1 0) (cond t 1 0) → s ≡ t
    bit-told true true e = refl
    bit-told true false e = absurd (omega (arith, e))
    bit-told false true e = absurd (omega (arith, e))
    bit-told false false e = refl

-- What the sets of two boards tell.
pub told-apart : (a b : Men) (c : Colour) (own other : ℕ) → length a ≡ 64 → length b ≡ 64 → own ≡ set_of (is_man c Pawn) a → other ≡ set_of (is_man c Pawn) b
    → (own ≡ other → ⊥) → false ≡ same_pawns a b
told-apart a b c own other squares squares' own_is other_is apart = elim (cases_Bool (same_pawns a b)) [
  | inl same ↦ absurd (apart (own_is ∙ sets-same a b squares squares' same c ∙ sym other_is))
  | inr differs ↦ sym differs
]

pub told-same : (a b : Men) (own other black black' : ℕ) → length a ≡ 64 → length b ≡ 64 → own ≡ set_of (is_man White Pawn) a → other ≡ set_of (is_man White Pawn) b
    → black ≡ set_of (is_man Black Pawn) a → black' ≡ set_of (is_man Black Pawn) b → own ≡ other → eqb black black' ≡ same_pawns a b
told-same a b own other black black' squares squares' own_is other_is black_is black_is' same = elim (cases_Bool (eqb black black')) [
  | inl same_black ↦
      same_black ∙ pawns_all a b (λ s less. same-on (man_at a s) (man_at b s) (set-at a b White s (sym own_is ∙ same ∙ other_is))
      (set-at a b Black s (sym black_is ∙ eqb-true black black' same_black ∙ black_is')))
  | inr differs ↦ differs ∙ told-apart a b Black black black' squares squares' black_is black_is' (λ e. false≢true (sym differs ∙ eq-eqb black black' e))
]
