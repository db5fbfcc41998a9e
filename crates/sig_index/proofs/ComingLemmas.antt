-- Counts that come into a range: what is missing is made of pawns.
use Rattle.std.proofs.Common.{◌≡◌, ℕ, ◌+◌, ◌-◌, ◌≤◌, Bool, true, arith, lit<}
use Rattle.std.specs.Prelude.{slice_index}
use Rattle.std.proofs.lemmas.Bool.{and_from, le-leb}
use Rattle.cell_core.specs.declared.man.Colour.TheVariants.{White, Black}
use Rattle.cell_core.specs.declared.man.Kind.TheVariants.{Queen, Rook, Bishop, Knight, Pawn}
use Rattle.cell_core.specs.Board.{Men}
use Rattle.chess_laws.specs.Counts.{count_of, counts_of}
use Rattle.chess_laws.specs.Position.{Sound}
use Rattle.game_tree.specs.Game.{GameTree}
use Rattle.game_tree.specs.Legal.{IsLegalGame}
use Rattle.game_tree.specs.Replay.{position_at}
use Rattle.sig_index.specs.declared.mat_query.MatRange.{MatRange}
use Rattle.sig_index.specs.Coming.{AreAtLeast, can_come, colour_can_come, lack}
use Rattle.sig_index.proofs.Paying.{Pays, rose}
use Rattle.sig_index.proofs.SkippingLemmas.{game-pays}

pub lacked : (lo old new : ℕ) → lo ≤ new → lo - old ≤ new - old
lacked lo old new h = omega arith

sums : (q r b n q' r' b' n' w w' p : ℕ) → q ≤ q' → r ≤ r' → b ≤ b' → n ≤ n' → w ≤ w' → q' + (r' + b' + n') + w' ≤ p → q + (r + b + n) + w ≤ p
sums q r b n q' r' b' n' w w' p hq hr hb hn hw paid = omega arith

white-comes : (range : MatRange) (old new : Men) (promo under : Bool) → Pays promo under old new → AreAtLeast (counts_of new) range
    → colour_can_come range (counts_of old) 0 ≡ true
white-comes range old new promo under pays lo =
    le-leb (lack range (counts_of old) 0 + (lack range (counts_of old) 1 + lack range (counts_of old) 2 + lack range (counts_of old) 3) + slice_index range.lo 4) (count_of old White Pawn)
    (sums (lack range (counts_of old) 0) (lack range (counts_of old) 1) (lack range (counts_of old) 2) (lack range (counts_of old) 3)
    (rose old new White Queen) (rose old new White Rook) (rose old new White Bishop) (rose old new White Knight)
    (slice_index range.lo 4) (count_of new White Pawn) (count_of old White Pawn)
    (lacked (slice_index range.lo 0) (count_of old White Queen) (count_of new White Queen) (lo 0 (lit< tt)))
    (lacked (slice_index range.lo 1) (count_of old White Rook) (count_of new White Rook) (lo 1 (lit< tt)))
    (lacked (slice_index range.lo 2) (count_of old White Bishop) (count_of new White Bishop) (lo 2 (lit< tt)))
    (lacked (slice_index range.lo 3) (count_of old White Knight) (count_of new White Knight) (lo 3 (lit< tt)))
    (lo 4 (lit< tt)) (pays.paid White))

black-comes : (range : MatRange) (old new : Men) (promo under : Bool) → Pays promo under old new → AreAtLeast (counts_of new) range
    → colour_can_come range (counts_of old) 5 ≡ true
black-comes range old new promo under pays lo =
    le-leb (lack range (counts_of old) 5 + (lack range (counts_of old) 6 + lack range (counts_of old) 7 + lack range (counts_of old) 8) + slice_index range.lo 9) (count_of old Black Pawn)
    (sums (lack range (counts_of old) 5) (lack range (counts_of old) 6) (lack range (counts_of old) 7) (lack range (counts_of old) 8)
    (rose old new Black Queen) (rose old new Black Rook) (rose old new Black Bishop) (rose old new Black Knight)
    (slice_index range.lo 9) (count_of new Black Pawn) (count_of old Black Pawn)
    (lacked (slice_index range.lo 5) (count_of old Black Queen) (count_of new Black Queen) (lo 5 (lit< tt)))
    (lacked (slice_index range.lo 6) (count_of old Black Rook) (count_of new Black Rook) (lo 6 (lit< tt)))
    (lacked (slice_index range.lo 7) (count_of old Black Bishop) (count_of new Black Bishop) (lo 7 (lit< tt)))
    (lacked (slice_index range.lo 8) (count_of old Black Knight) (count_of new Black Knight) (lo 8 (lit< tt)))
    (lo 9 (lit< tt)) (pays.paid Black))

-- Counts that are at least those at a later ply can come.
pub comes : (game : GameTree) (range : MatRange) (i j : ℕ) → Sound game.start → IsLegalGame game → i ≤ j
    → AreAtLeast (counts_of (position_at game j).board) range → can_come range (counts_of (position_at game i).board) ≡ true
unfolding can_come
comes game range i j sound legal later least =
    let old = (position_at game i).board in
    let new = (position_at game j).board in
    let pays = game-pays game i j sound legal later in
    and_from (colour_can_come range (counts_of old) 0) (colour_can_come range (counts_of old) 5)
    (white-comes range old new _ _ pays least) (black-comes range old new _ _ pays least)
