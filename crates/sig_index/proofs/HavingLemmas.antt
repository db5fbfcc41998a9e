-- Skipping by the men of the start is sound: what a game from the initial position has more than there was made of pawns.
use Rattle.std.proofs.Common.{◌≡◌, ℕ, ◌+◌, ◌≤◌, inl, inr, Bool, true, false, ◌&&◌, ◌||◌, eqb, leb, refl, subst, arith, lit<}
use Rattle.std.specs.Prelude.{slice_index}
use Rattle.std.specs.Bool.{MatchBool}
use Rattle.std.proofs.lemmas.Bool.{and_from, cases_Bool, le-leb, or_left, or_right}
use Rattle.cell_core.specs.declared.man.Colour.{Colour}
use Rattle.cell_core.specs.declared.man.Colour.TheVariants.{White, Black}
use Rattle.cell_core.specs.declared.man.Kind.TheVariants.{Queen, Rook, Bishop, Knight, Pawn}
use Rattle.cell_core.specs.Board.{Men}
use Rattle.chess_laws.specs.Counts.{count_of, counts_of}
use Rattle.chess_laws.specs.Position.{Sound, start_setup}
use Rattle.chess_laws.specs.declared.setup.Setup.{Setup}
use Rattle.game_tree.specs.Game.{GameTree}
use Rattle.game_tree.specs.Legal.{IsLegalGame}
use Rattle.game_tree.specs.Replay.{position_at}
use Rattle.sig_index.specs.declared.mat_query.MatRange.{MatRange}
use Rattle.sig_index.specs.declared.signature.Sig.{Sig}
use Rattle.sig_index.specs.Coming.{AreAtLeast, lack, over_lesser, over_pieces}
use Rattle.sig_index.specs.Having.{can_have, colour_can_have, start_counts}
use Rattle.sig_index.specs.Signature.{IsSig}
use Rattle.sig_index.proofs.ComingLemmas.{lacked}
use Rattle.sig_index.proofs.Paying.{Pays, all_rose, lesser_rose, rose}
use Rattle.sig_index.proofs.SkippingLemmas.{below_zero, game-pays, or_zero, sum2, sum3}
use Rattle.sig_index.proofs.SigOf.{parts}

pub initial : counts_of start_setup.board ≡ start_counts
initial = refl

-- What was missing at the start to the least is no more than what rose.
record Rose (range : MatRange) (queens : ℕ) (new : Men) (c : Colour) : Type 0 where
  queen : lack range start_counts queens ≤ rose start_setup.board new c Queen
  rook : lack range start_counts (queens + 1) ≤ rose start_setup.board new c Rook
  bishop : lack range start_counts (queens + 2) ≤ rose start_setup.board new c Bishop
  knight : lack range start_counts (queens + 3) ≤ rose start_setup.board new c Knight
  final : slice_index range.lo (queens + 4) ≤ count_of new c Pawn
  pawns : count_of start_setup.board c Pawn ≡ 8

paid_within : (x y lo w p : ℕ) → x ≤ y → lo ≤ w → y + w ≤ p → p ≡ 8 → x + lo ≤ 8
paid_within x y lo w p a b c d = omega arith

holds : (promo under : Bool) (all lesser pawns : ℕ) → all + pawns ≤ 8 → (promo ≡ false → all ≡ 0) → (under ≡ false → lesser ≡ 0)
    → (leb (all + pawns) 8 && (promo || eqb all 0) && (under || eqb lesser 0)) ≡ true
holds promo under all lesser pawns paid none queens =
    and_from (leb (all + pawns) 8 && (promo || eqb all 0)) (under || eqb lesser 0)
    (and_from (leb (all + pawns) 8) (promo || eqb all 0) (le-leb (all + pawns) 8 paid) (or_zero promo all none)) (or_zero under lesser queens)

colour-has : (sig : Sig) (range : MatRange) (queens : ℕ) (new : Men) (c : Colour) → Rose range queens new c → Pays sig.promo sig.under start_setup.board new
    → colour_can_have sig range queens ≡ true
colour-has sig range queens new c up pays =
    let lesser : over_lesser (lack range start_counts) queens ≤ lesser_rose start_setup.board new c =
    sum3 (lack range start_counts (queens + 1)) (lack range start_counts (queens + 2)) (lack range start_counts (queens + 3))
    (rose start_setup.board new c Rook) (rose start_setup.board new c Bishop) (rose start_setup.board new c Knight) up.rook up.bishop up.knight in
    let all : over_pieces (lack range start_counts) queens ≤ all_rose start_setup.board new c =
    sum2 (lack range start_counts queens) (over_lesser (lack range start_counts) queens) (rose start_setup.board new c Queen) (lesser_rose start_setup.board new c) up.queen lesser in
    holds sig.promo sig.under (over_pieces (lack range start_counts) queens) (over_lesser (lack range start_counts) queens) (slice_index range.lo (queens + 4))
    (paid_within (over_pieces (lack range start_counts) queens) (all_rose start_setup.board new c) (slice_index range.lo (queens + 4)) (count_of new c Pawn)
    (count_of start_setup.board c Pawn) all up.final (pays.paid c) up.pawns)
    (λ none. below_zero (over_pieces (lack range start_counts) queens) (all_rose start_setup.board new c) all (pays.unpromoted none c))
    (λ none. below_zero (over_lesser (lack range start_counts) queens) (lesser_rose start_setup.board new c) lesser (pays.queens_alone none c))

white-rose : (range : MatRange) (new : Men) → AreAtLeast (counts_of new) range → Rose range 0 new White
white-rose range new lo =
    record {
      queen = lacked (slice_index range.lo 0) 1 (count_of new White Queen) (lo 0 (lit< tt));
      rook = lacked (slice_index range.lo 1) 2 (count_of new White Rook) (lo 1 (lit< tt));
      bishop = lacked (slice_index range.lo 2) 2 (count_of new White Bishop) (lo 2 (lit< tt));
      knight = lacked (slice_index range.lo 3) 2 (count_of new White Knight) (lo 3 (lit< tt));
      final = lo 4 (lit< tt);
      pawns = refl;
    }

black-rose : (range : MatRange) (new : Men) → AreAtLeast (counts_of new) range → Rose range 5 new Black
black-rose range new lo =
    record {
      queen = lacked (slice_index range.lo 5) 1 (count_of new Black Queen) (lo 5 (lit< tt));
      rook = lacked (slice_index range.lo 6) 2 (count_of new Black Rook) (lo 6 (lit< tt));
      bishop = lacked (slice_index range.lo 7) 2 (count_of new Black Bishop) (lo 7 (lit< tt));
      knight = lacked (slice_index range.lo 8) 2 (count_of new Black Knight) (lo 8 (lit< tt));
      final = lo 9 (lit< tt);
      pawns = refl;
    }

-- A game from the initial position.
from-start : (game : GameTree) (sig : Sig) (range : MatRange) (k : ℕ) → Sound game.start → IsLegalGame game → IsSig game sig → game.start ≡ start_setup
    → AreAtLeast (counts_of (position_at game k).board) range → (colour_can_have sig range 0 && colour_can_have sig range 5) ≡ true
from-start game sig range k sound legal is start least =
    let has = parts game sig is in
    let new = (position_at game k).board in
    let paid : Pays sig.promo sig.under (position_at game 0).board new = rw (has.promo, has.under) (game-pays game 0 k sound legal (omega arith)) in
    let pays : Pays sig.promo sig.under start_setup.board new = subst (λ (p : Setup). Pays sig.promo sig.under p.board new) start paid in
    and_from (colour_can_have sig range 0) (colour_can_have sig range 5)
    (colour-has sig range 0 new White (white-rose range new least) pays) (colour-has sig range 5 new Black (black-rose range new least) pays)

-- The counts at a ply are at least those of a range only where `can_have` holds.
pub skipping_sound : (game : GameTree) (sig : Sig) (range : MatRange) (k : ℕ) → Sound game.start → IsLegalGame game → IsSig game sig
    → AreAtLeast (counts_of (position_at game k).board) range → can_have sig range ≡ true
unfolding can_have
skipping_sound game sig range k sound legal is least = elim (cases_Bool sig.own_start) [
  | inl own ↦ or_left sig.own_start (colour_can_have sig range 0 && colour_can_have sig range 5) own
  | inr none ↦ or_right sig.own_start (colour_can_have sig range 0 && colour_can_have sig range 5)
      (from-start game sig range k sound legal is
      (subst (λ b. MatchBool b (game.start ≡ start_setup → ⊥) (game.start ≡ start_setup)) none (parts game sig is).own_start) least)
]
