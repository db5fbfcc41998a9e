-- Material skipping is sound: the counts at a ply tell what the last counts and the marks of promotions can be.
use Rattle.std.proofs.Common.{◌≡◌, ℕ, ◌+◌, ◌-◌, ◌≤◌, Bool, true, false, ◌&&◌, ◌||◌, eqb, leb, List, min, refl, sym, ap, subst, arith, lit<}
use Rattle.std.specs.Prelude.{slice_index}
use Rattle.std.proofs.lemmas.Bool.{le-leb}
use Rattle.cell_core.specs.declared.man.Colour.{Colour}
use Rattle.cell_core.specs.declared.man.Colour.TheVariants.{White, Black}
use Rattle.cell_core.specs.declared.man.Kind.TheVariants.{Queen, Rook, Bishop, Knight, Pawn}
use Rattle.cell_core.specs.Board.{Men}
use Rattle.chess_laws.specs.Counts.{count_of, counts_of}
use Rattle.chess_laws.specs.Position.{Sound}
use Rattle.game_tree.specs.Game.{GameTree}
use Rattle.game_tree.specs.Legal.{IsLegalGame}
use Rattle.game_tree.specs.Promotions.{has_promotion, has_underpromotion}
use Rattle.game_tree.specs.Replay.{plies_of, position_at}
use Rattle.sig_index.specs.declared.mat_query.MatRange.{MatRange}
use Rattle.sig_index.specs.declared.signature.Sig.{Sig}
use Rattle.sig_index.specs.Signature.{IsSig, material_of}
use Rattle.sig_index.specs.Skipping.{AreAtMost, can_stand, colour_can_stand, rise}
use Rattle.sig_index.specs.Coming.{over_lesser, over_pieces}
use Rattle.sig_index.proofs.Paying.{Pays, all_rose, lesser_rose, line-pays, rose}
use Rattle.sig_index.proofs.SigOf.{parts}

-- From one ply of a game to a later one.
pub game-pays : (game : GameTree) (i j : ℕ) → Sound game.start → IsLegalGame game → i ≤ j
    → Pays (has_promotion game) (has_underpromotion game) (position_at game i).board (position_at game j).board
game-pays game i j sound legal h = line-pays game.start game.line i j sound legal.line h

-- ---- one colour

-- A count cut at three rises no more above the bound than the count above one that was within it.
cut_rise : (old new bound : ℕ) → old ≤ bound → min new 3 - bound ≤ new - old
cut_rise old new bound h = omega arith

pub or_zero : (t : Bool) (n : ℕ) → (t ≡ false → n ≡ 0) → (t || eqb n 0) ≡ true
or_zero true n h = refl
or_zero false n h = ap (λ k. eqb k 0) (h refl)

all_hold : (a b c d : Bool) → a ≡ true → b ≡ true → c ≡ true → d ≡ true → (a && b && c && d) ≡ true
all_hold a b c d h i j k = rw (h, i, j, k) refl

-- The test from its parts.
pub holds : (promo under : Bool) (all lesser pawns bound : ℕ) → all + pawns ≤ bound → (promo ≡ false → all ≡ 0) → (under ≡ false → lesser ≡ 0)
    → (leb pawns bound && leb all (bound - pawns) && (promo || eqb all 0) && (under || eqb lesser 0)) ≡ true
holds promo under all lesser pawns bound paid none queens =
    all_hold (leb pawns bound) (leb all (bound - pawns)) (promo || eqb all 0) (under || eqb lesser 0)
    (le-leb pawns bound (omega arith)) (le-leb all (bound - pawns) (omega arith)) (or_zero promo all none) (or_zero under lesser queens)

-- What rose above the bounds is no more than what rose.
record Cut (sig : Sig) (range : MatRange) (queens : ℕ) (old new : Men) (c : Colour) : Type 0 where
  queen : rise sig range queens ≤ rose old new c Queen
  rook : rise sig range (queens + 1) ≤ rose old new c Rook
  bishop : rise sig range (queens + 2) ≤ rose old new c Bishop
  knight : rise sig range (queens + 3) ≤ rose old new c Knight
  final : slice_index sig.material (queens + 4) ≡ count_of new c Pawn
  pawns : count_of old c Pawn ≤ slice_index range.hi (queens + 4)

pub sum3 : (x y z x' y' z' : ℕ) → x ≤ x' → y ≤ y' → z ≤ z' → x + y + z ≤ x' + y' + z'
sum3 x y z x' y' z' h i j = omega arith

pub sum2 : (x y x' y' : ℕ) → x ≤ x' → y ≤ y' → x + y ≤ x' + y'
sum2 x y x' y' h i = omega arith

pub below_zero : (x y : ℕ) → x ≤ y → y ≡ 0 → x ≡ 0
below_zero x y h i = omega arith

paid_within : (x y w f p h : ℕ) → x ≤ y → y + f ≤ p → w ≡ f → p ≤ h → x + w ≤ h
paid_within x y w f p h a b c d = omega arith

colour-stands : (sig : Sig) (range : MatRange) (queens : ℕ) (old new : Men) (c : Colour) → Cut sig range queens old new c → Pays sig.promo sig.under old new
    → colour_can_stand sig range queens ≡ true
colour-stands sig range queens old new c cut pays =
    let lesser : over_lesser (rise sig range) queens ≤ lesser_rose old new c =
    sum3 (rise sig range (queens + 1)) (rise sig range (queens + 2)) (rise sig range (queens + 3)) (rose old new c Rook) (rose old new c Bishop) (rose old new c Knight)
    cut.rook cut.bishop cut.knight in
    let all : over_pieces (rise sig range) queens ≤ all_rose old new c =
    sum2 (rise sig range queens) (over_lesser (rise sig range) queens) (rose old new c Queen) (lesser_rose old new c) cut.queen lesser in
    holds sig.promo sig.under (over_pieces (rise sig range) queens) (over_lesser (rise sig range) queens) (slice_index sig.material (queens + 4)) (slice_index range.hi (queens + 4))
    (paid_within (over_pieces (rise sig range) queens) (all_rose old new c) (slice_index sig.material (queens + 4)) (count_of new c Pawn) (count_of old c Pawn)
    (slice_index range.hi (queens + 4)) all (pays.paid c) cut.final cut.pawns)
    (λ none. below_zero (over_pieces (rise sig range) queens) (all_rose old new c) all (pays.unpromoted none c))
    (λ none. below_zero (over_lesser (rise sig range) queens) (lesser_rose old new c) lesser (pays.queens_alone none c))

-- ---- a game

cut_at : (material : List ℕ) (place old new bound : ℕ) → slice_index material place ≡ min new 3 → old ≤ bound → slice_index material place - bound ≤ new - old
cut_at material place old new bound is h = subst (λ n. n - bound ≤ new - old) (sym is) (cut_rise old new bound h)

white-cut : (sig : Sig) (range : MatRange) (old new : Men) → sig.material ≡ material_of new → AreAtMost (counts_of old) range → Cut sig range 0 old new White
white-cut sig range old new is most =
    let at : (place : ℕ) → slice_index sig.material place ≡ slice_index (material_of new) place = λ place. ap (λ (m : List ℕ). slice_index m place) is in
    record {
      queen = cut_at sig.material 0 (count_of old White Queen) (count_of new White Queen) (slice_index range.hi 0) (at 0) (most 0 (lit< tt));
      rook = cut_at sig.material 1 (count_of old White Rook) (count_of new White Rook) (slice_index range.hi 1) (at 1) (most 1 (lit< tt));
      bishop = cut_at sig.material 2 (count_of old White Bishop) (count_of new White Bishop) (slice_index range.hi 2) (at 2) (most 2 (lit< tt));
      knight = cut_at sig.material 3 (count_of old White Knight) (count_of new White Knight) (slice_index range.hi 3) (at 3) (most 3 (lit< tt));
      final = at 4;
      pawns = most 4 (lit< tt);
    }

black-cut : (sig : Sig) (range : MatRange) (old new : Men) → sig.material ≡ material_of new → AreAtMost (counts_of old) range → Cut sig range 5 old new Black
black-cut sig range old new is most =
    let at : (place : ℕ) → slice_index sig.material place ≡ slice_index (material_of new) place = λ place. ap (λ (m : List ℕ). slice_index m place) is in
    record {
      queen = cut_at sig.material 5 (count_of old Black Queen) (count_of new Black Queen) (slice_index range.hi 5) (at 5) (most 5 (lit< tt));
      rook = cut_at sig.material 6 (count_of old Black Rook) (count_of new Black Rook) (slice_index range.hi 6) (at 6) (most 6 (lit< tt));
      bishop = cut_at sig.material 7 (count_of old Black Bishop) (count_of new Black Bishop) (slice_index range.hi 7) (at 7) (most 7 (lit< tt));
      knight = cut_at sig.material 8 (count_of old Black Knight) (count_of new Black Knight) (slice_index range.hi 8) (at 8) (most 8 (lit< tt));
      final = at 9;
      pawns = most 9 (lit< tt);
    }

both_stand : (a b : Bool) → a ≡ true → b ≡ true → (a && b) ≡ true
both_stand a b h i = rw (h, i) refl

-- The counts at a ply are at most those of a range only where `can_stand` holds.
pub skipping_sound : (game : GameTree) (sig : Sig) (range : MatRange) (k : ℕ) → Sound game.start → IsLegalGame game → IsSig game sig → k ≤ plies_of game
    → AreAtMost (counts_of (position_at game k).board) range → can_stand sig range ≡ true
skipping_sound game sig range k sound legal is within most =
    let has = parts game sig is in
    let old = (position_at game k).board in
    let new = (position_at game (plies_of game)).board in
    let pays : Pays sig.promo sig.under old new = rw (has.promo, has.under) (game-pays game k (plies_of game) sound legal within) in
    both_stand (colour_can_stand sig range 0) (colour_can_stand sig range 5)
    (colour-stands sig range 0 old new White (white-cut sig range old new has.material most) pays)
    (colour-stands sig range 5 old new Black (black-cut sig range old new has.material most) pays)
