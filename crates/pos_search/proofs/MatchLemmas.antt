-- What a position that is sought has in common with the query.
use Rattle.std.proofs.Common.{◌≡◌, ℕ, ◌+◌, ◌-◌, ◌<◌, leb, get_or, Bool, true, false, cond, ◌&&◌, List, Option, None, Some, refl, sym, ap, ◌∙◌, arith, inl, inr}
use Rattle.std.specs.Bool.{Decides}
use Rattle.std.specs.Option.{option_eq}
use Rattle.std.proofs.lemmas.Bool.{and_parts, cases_Bool}
use Rattle.std.proofs.lemmas.Bool.Decides.{nat_tests, same_from_decides}
use Rattle.std.proofs.lemmas.Slice.Eq.{bytes_eq-Decides}
use Rattle.cell_core.specs.declared.man.Colour.{Colour}
use Rattle.cell_core.specs.declared.man.Kind.TheVariants.{Pawn}
use Rattle.cell_core.specs.declared.man.Man.{Man}
use Rattle.cell_core.specs.Board.{Men, man_at, same_men}
use Rattle.cell_core.specs.Man.{is_man, same_colour, same_kind}
use Rattle.cell_core.specs.Sets.{is_kind, set_of}
use Rattle.cell_core.proofs.Same.{same_colour-Decides, same_men-Decides}
use Rattle.chess_laws.specs.Counts.{counts_of, home_colour, home_square, is_home}
use Rattle.chess_laws.specs.declared.setup.Setup.{Setup}
use Rattle.sig_index.specs.Coming.{can_come}
use Rattle.sig_index.specs.declared.pos_query.Mode.{Mode}
use Rattle.sig_index.specs.declared.pos_query.Mode.TheVariants.{Exact, Pawns, Files, Material}
use Rattle.sig_index.specs.declared.pos_query.PosQuery.{PosQuery}
use Rattle.sig_index.proofs.HomeLemmas.{home_fits}
use Rattle.sig_index.proofs.Ranges.{all_each, all_from}
use Rattle.pos_search.specs.Matching.{alike, matches, pawn_on, same_counts, same_file, same_files, same_pawn, same_pawns}
use Rattle.pos_search.specs.Passing.{fixes_pawns, just}

-- ---- two boards

counts-Decides : (a b : Men) → Decides (same_counts a b) (counts_of a ≡ counts_of b)
unfolding same_counts
counts-Decides a b = bytes_eq-Decides (counts_of a) (counts_of b)

-- Boards whose pawns stand elsewhere have other men.
pub pawns_apart : (a b : Men) (own other : ℕ) → own ≡ set_of (is_kind Pawn) a → other ≡ set_of (is_kind Pawn) b → (own ≡ other → ⊥) → false ≡ same_men a b
pawns_apart a b own other own_is other_is apart = elim (cases_Bool (same_men a b)) [
  | inl same ↦ absurd (apart (own_is ∙ ap (set_of (is_kind Pawn)) ((same_men-Decides a b).0 same) ∙ sym other_is))
  | inr differs ↦ sym differs
]

alike_counts : (mode : Mode) (a b : Men) → alike mode a b ≡ true → counts_of a ≡ counts_of b
alike_counts Exact a b holds = ap counts_of ((same_men-Decides a b).0 holds)
alike_counts Pawns a b holds = (counts-Decides a b).0 (and_parts (same_counts a b) (same_pawns a b) holds).0
alike_counts Files a b holds = (counts-Decides a b).0 (and_parts (same_counts a b) (same_files a b) holds).0
alike_counts Material a b holds = (counts-Decides a b).0 holds

-- ---- pawns

unfoldable pub is_side : Colour → Option Colour → Bool
is_side c None = false
is_side c (Some d) = same_colour d c

pawn_side : (t : Bool) (c d : Colour) → (same_colour d c && t) ≡ is_side c (cond t (Some d) None)
unfolding is_side
pawn_side true c d = and_true (same_colour d c)
  where
    and_true : (t : Bool) → (t && true) ≡ t
    and_true true = refl
    and_true false = refl
pawn_side false c d = and_false (same_colour d c)
  where
    and_false : (t : Bool) → (t && false) ≡ false
    and_false true = refl
    and_false false = refl

-- A pawn of a side stands on a square where the side of the pawn on it is this one.
pub side_is : (c : Colour) (x : Option Man) → is_man c Pawn x ≡ is_side c (pawn_on x)
unfolding is_side
side_is c None = refl
side_is c (Some m) = pawn_side (same_kind m.kind Pawn) c m.colour

pub same_side : (x y : Option Colour) → option_eq same_colour x y ≡ true → x ≡ y
same_side None None h = refl
same_side None (Some d) h = absurd (cc)
same_side (Some c) None h = absurd (cc)
same_side (Some c) (Some d) h = ap (λ (e : Colour). Some e) ((same_colour-Decides c d).0 h)

pawns_home : (a b : Men) (v : ℕ) → v < 16 → same_pawns a b ≡ true → is_home a v ≡ is_home b v
unfolding same_pawns
pawns_home a b v small same =
    let on = (home_fits v small).0 in
    let here = all_each (same_pawn a b) 0 64 (home_square v) same (omega arith) on in
    side_is (home_colour v) (man_at a (home_square v))
    ∙ ap (is_side (home_colour v)) (same_side (pawn_on (man_at a (home_square v))) (pawn_on (man_at b (home_square v))) here)
    ∙ sym (side_is (home_colour v) (man_at b (home_square v)))

alike_homes : (mode : Mode) (a b : Men) (v : ℕ) → v < 16 → alike mode a b ≡ true → fixes_pawns mode ≡ true → is_home a v ≡ is_home b v
alike_homes Exact a b v small holds fixed = ap (λ (men : Men). is_home men v) ((same_men-Decides a b).0 holds)
alike_homes Pawns a b v small holds fixed = pawns_home a b v small (and_parts (same_counts a b) (same_pawns a b) holds).1
alike_homes Files a b v small holds fixed = absurd (cc)
alike_homes Material a b v small holds fixed = absurd (cc)

-- What is seen of a board square by square, or file by file.
pub pawns_all : (a b : Men) → ((s : ℕ) → s < 64 → same_pawn a b s ≡ true) → true ≡ same_pawns a b
unfolding same_pawns
pawns_all a b each = sym (all_from (same_pawn a b) 0 64 (λ s from less. each s less))

pub files_each : (a b : Men) (file : ℕ) → same_files a b ≡ true → file < 8 → same_file a b file ≡ true
unfolding same_files
files_each a b file same less = all_each (same_file a b) 0 8 file same (omega arith) less

pub files_all : (a b : Men) → ((file : ℕ) → file < 8 → same_file a b file ≡ true) → true ≡ same_files a b
unfolding same_files
files_all a b each = sym (all_from (same_file a b) 0 8 (λ file from less. each file less))

-- ---- a position that is sought

-- the ten counts are compared
pub counts_same : (a b : Men) (sought counts : List ℕ) (t : Bool) → Decides t (sought ≡ counts) → sought ≡ counts_of b → counts ≡ counts_of a → t ≡ same_counts a b
counts_same a b sought counts t is count' count =
    same_from_decides t (same_counts a b) (λ h. sym (let told : counts_of b ≡ counts_of a = rw (count, count') at (is.0 h) in told), λ same. is.1 (count' ∙ sym same ∙ sym count)) (counts-Decides a b)

-- the same men can come
enough : (a b d e p : ℕ) → leb (a - a + (b - b + (d - d) + (e - e)) + p) p ≡ true
enough a b d e p = grind (arith, nat_tests)

pub comes_same : (counts : List ℕ) → can_come (just counts) counts ≡ true
unfolding can_come
comes_same counts =
    let at = λ (place : ℕ). get_or counts place 0 in
    rw (enough (at 0) (at 1) (at 2) (at 3) (at 4), enough (at 5) (at 6) (at 7) (at 8) (at 9)) refl

pub record Matched (query : PosQuery) (p : Setup) : Type 0 where
  pub side : p.side ≡ query.side
  pub counts : counts_of p.board ≡ counts_of query.board
  pub homes : fixes_pawns query.mode ≡ true → (v : ℕ) → v < 16 → is_home p.board v ≡ is_home query.board v
  pub exact : query.mode ≡ Exact → p.board ≡ query.board

pub matched : (query : PosQuery) (p : Setup) → matches query p ≡ true → Matched query p
unfolding matches
matched query p holds =
    let both = and_parts (same_colour p.side query.side) (alike query.mode p.board query.board) holds in
    record {
      side = (same_colour-Decides p.side query.side).0 both.0;
      counts = alike_counts query.mode p.board query.board both.1;
      homes = λ fixed v small. alike_homes query.mode p.board query.board v small both.1 fixed;
      exact = λ exact. (same_men-Decides p.board query.board).0
          (ap (λ (mode : Mode). alike mode p.board query.board) (sym exact) ∙ both.1);
    }
