-- What one position adds to the tallies of boards.
use Rattle.std.proofs.Common.{◌≡◌, ◌≤◌, ◌+◌, ℕ, Bool, true, false, List, length, Option, None, Some, refl, sym, ap, ◌∙◌, subst, arith}
use Rattle.std.specs.Prelude.{All, slice_get}
use Rattle.std.proofs.lemmas.Option.{slice_get_within}
use Rattle.cell_core.specs.declared.man.Colour.{Colour}
use Rattle.cell_core.specs.declared.step.Move.{Move}
use Rattle.cell_core.specs.Packed.{Packed, men_of}
use Rattle.chess_laws.specs.Position.{Sound}
use Rattle.chess_laws.specs.Step.{Step}
use Rattle.chess_laws.specs.declared.setup.Setup.{Setup}
use Rattle.game_tree.specs.Game.{GameTree}
use Rattle.game_tree.specs.Legal.{IsLegalGame}
use Rattle.game_tree.specs.Replay.{main_moves, next_at, plies_of, position_at}
use Rattle.pos_search.specs.Matching.{matches, matches_at}
use Rattle.sig_index.proofs.RecordLemmas.{no_next}
use Rattle.tree_rows.specs.Hits.{hit_from}
use Rattle.tree_rows.specs.MoveText.{IsKey}
use Rattle.tree_rows.specs.declared.hit.GameHit.{GameHit}
use Rattle.book_pages.specs.declared.counting.Counted.{Counted}
use Rattle.book_pages.specs.Keeping.{AreMetAt, AreMetNoMore, AreTallies, HasHomes, IsBoard, IsHere, IsPast, Tallied, hit_at, is_at, query_of}
use Rattle.book_pages.proofs.BoardLemmas.{none_later}
use Rattle.book_pages.proofs.MeetLemmas.{kept_here}
use Rattle.book_pages.proofs.PlaceLemmas.{matched}

-- What is counted of a game that goes on with this move from a position with this side to move.
abbrev pub hit_with : Counted → Option Move → Colour → GameHit
hit_with counted next side = hit_from next side counted.outcome counted.white counted.black counted.year

-- The number of the board of a position.
abbrev pub Tells : List Packed → Setup → Option ℕ → Type 0
Tells boards p found = (k : ℕ) (board : Packed) → slice_get boards k ≡ Some board → matches (query_of board) p ≡ is_at found k

-- And what was counted there.
abbrev pub Meets : Option ℕ → ℕ → GameHit → List Tallied → List Tallied → Type 0
Meets found i hit old new = (k : ℕ) (before after : Tallied) → slice_get old k ≡ Some before → slice_get new k ≡ Some after → IsHere (is_at found k) i hit before after

stays : (here : Bool) (i : ℕ) (hit : GameHit) (before after : Tallied) → here ≡ false → after ≡ before → IsHere here i hit before after
stays here i hit before after none same = subst (λ (t : Bool). IsHere t i hit before after) (sym none) same

same_hit : (here there : Bool) (i : ℕ) (hit other : GameHit) (before after : Tallied) → IsHere there i hit before after → here ≡ there → (here ≡ true → hit ≡ other)
    → IsHere here i other before after
same_hit true there i hit other before after is at same =
    subst (λ (h : GameHit). IsHere true i h before after) (same refl) (subst (λ (t : Bool). IsHere t i hit before after) (sym at) is)
same_hit false there i hit other before after is at same = subst (λ (t : Bool). IsHere t i hit before after) (sym at) is

-- Where a game is past the boards nothing is met.
pub past_met : (fewest : ℕ) (homes : List ℕ) (boards : List Packed) (counted : Counted) (game : GameTree) (ply : ℕ) (tallies : List Tallied)
    → All (IsBoard fewest) boards → All (HasHomes homes) boards → IsPast fewest homes (position_at game ply).board → Sound game.start → IsLegalGame game
    → AreMetAt boards counted game ply tallies tallies
past_met fewest homes boards counted game ply tallies all have past sound legal = λ k board before after is_board is_before is_after.
    stays (matches_at (query_of board) game ply) counted.number (hit_at counted board.side game ply) before after
    (none_later fewest homes boards game ply ply k board all have past sound legal (omega arith) (λ v small home. home) is_board)
    (let same : Some after ≡ Some before = sym is_after ∙ is_before in cc)

-- The position is met on its board.
pub met_here : (boards : List Packed) (counted : Counted) (game : GameTree) (ply : ℕ) (p : Setup) (next : Option Move) (found : Option ℕ) (old new : List Tallied)
    → p ≡ position_at game ply → next ≡ next_at game ply → Tells boards p found → Meets found counted.number (hit_with counted next p.side) old new
    → AreMetAt boards counted game ply old new
met_here boards counted game ply p next found old new at goes tells met = λ k board before after is_board is_before is_after.
    let on : matches_at (query_of board) game ply ≡ is_at found k = ap (matches (query_of board)) (sym at) ∙ tells k board is_board in
    same_hit (matches_at (query_of board) game ply) (is_at found k) counted.number (hit_with counted next p.side) (hit_at counted board.side game ply) before after
    (met k before after is_before is_after) on
    (λ holds. λ i. hit_with counted (goes i) ((matched board p (tells k board is_board ∙ sym on ∙ holds)).0 i))

key_of : (board : Packed) (p q : Setup) (next : Option Move) → Sound p → matches (query_of board) p ≡ true → ((m : Move) → next ≡ Some m → Step p m q)
    → IsKey (men_of board.cells) board.side next
key_of board p q None sound holds steps = tt
key_of board p q (Some m) sound holds steps =
    let at = matched board p holds in
    record { position = p; sound = sound; board = at.1; to_move = at.0; legal = (q, steps m refl) }

pub kept_met : (boards : List Packed) (counted : Counted) (p q : Setup) (next : Option Move) (found : Option ℕ) (old new : List Tallied) → Sound p
    → ((m : Move) → next ≡ Some m → Step p m q) → Tells boards p found → Meets found counted.number (hit_with counted next p.side) old new
    → length new ≡ length old → AreTallies boards (counted.number + 1) old → AreTallies boards (counted.number + 1) new
kept_met boards counted p q next found old new sound steps tells met count kept =
    kept_here boards counted.number (hit_with counted next p.side) (is_at found) old new kept count met
    (λ k board is_board here. key_of board p q next sound (tells k board is_board ∙ here) steps)

-- At the end of the main line no position is left.
pub end_met : (boards : List Packed) (game : GameTree) (ply : ℕ) → None ≡ next_at game ply → AreMetNoMore boards game ply
end_met boards game ply none = λ k later board there after within. absurd (omega (arith, no_next game ply (sym none), after, within))

-- The position behind a next move lies within the main line.
pub next_within : (game : GameTree) (ply later : ℕ) (m : Move) → Some m ≡ next_at game ply → later ≡ ply + 1 → later ≤ plies_of game
next_within game ply later m next is = let within = slice_get_within (main_moves game) ply m (sym next) in omega (arith, within, is)
