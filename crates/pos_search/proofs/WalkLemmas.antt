-- The walk over a main line: what is known at a ply, and when the answer is known.
use Rattle.std.proofs.Common.{◌≡◌, ℕ, ◌+◌, ◌<◌, ◌≤◌, true, false, Option, None, Some, sym, ap, ◌∙◌, subst, arith, inl, inr}
use Rattle.std.specs.Prelude.{option_map}
use Rattle.std.proofs.lemmas.Bool.{cases_eq, cases_lt}
use Rattle.cell_core.specs.declared.step.Move.{Move}
use Rattle.cell_core.specs.Packed.{packed_of}
use Rattle.chess_laws.specs.Position.{Sound}
use Rattle.chess_laws.specs.Step.{Step}
use Rattle.chess_laws.specs.declared.setup.Setup.{Setup}
use Rattle.game_tree.specs.Game.{GameTree}
use Rattle.game_tree.specs.Legal.{IsLegalGame}
use Rattle.game_tree.specs.Replay.{next_at, plies_of, position_at}
use Rattle.sig_index.specs.declared.pos_query.PosQuery.{PosQuery}
use Rattle.sig_index.proofs.Ranges.{find_first, find_none}
use Rattle.pos_index.proofs.LegalMoves.{legal_on}
use Rattle.pos_search.specs.Matching.{IsLegalFrom, first_on_main, hit_on_main, matches, matches_at}
use Rattle.pos_search.specs.Sought.{can_follow}
use Rattle.pos_search.proofs.FollowLemmas.{none_follows}
use Rattle.pos_search.proofs.MatchLemmas.{matched}

-- The walk is at this ply, and the game matches at none before it.
pub record IsAt (query : PosQuery) (game : GameTree) (ply : ℕ) : Type 0 where
  pub before : (k : ℕ) → k < ply → matches_at query game k ≡ false

pub at_start : (query : PosQuery) (game : GameTree) (ply : ℕ) → ply ≡ 0 → IsAt query game ply
at_start query game ply start = record { before = λ k less. absurd (omega (arith, start, less)) }

pub at_next : (query : PosQuery) (game : GameTree) (ply next : ℕ) → IsAt query game ply → matches_at query game ply ≡ false → next ≡ ply + 1 → IsAt query game next
at_next query game ply next at here is = record {
  before = λ k less. elim (cases_eq k ply) [
    | inl same ↦ subst (λ (n : ℕ). matches_at query game n ≡ false) (sym same) here
    | inr apart ↦ at.before k (omega (arith, less, is, apart))
  ];
}

-- The game matches here.
pub found_here : (query : PosQuery) (game : GameTree) (ply : ℕ) → IsAt query game ply → ply ≤ plies_of game
    → matches_at query game ply ≡ true → Some ply ≡ first_on_main query game
found_here query game ply at within holds =
    sym (find_first (matches_at query game) 0 (plies_of game + 1) ply (omega arith) (omega (arith, within)) holds at.before)

-- The hit there.
pub hit_here : (query : PosQuery) (game : GameTree) (ply : ℕ) (next : Option Move) → Some ply ≡ first_on_main query game → next ≡ next_at game ply
    → Some (ply, next) ≡ hit_on_main query game
hit_here query game ply next first is =
    ap (λ (m : Option Move). Some (ply, m)) is ∙ ap (λ (found : Option ℕ). option_map (λ (k : ℕ). (k, next_at game k)) found) first

-- It matches nowhere.
pub none_of : (query : PosQuery) (game : GameTree) → ((k : ℕ) → k ≤ plies_of game → matches_at query game k ≡ false) → None ≡ first_on_main query game
none_of query game none = sym (find_none (matches_at query game) 0 (plies_of game + 1) (λ k from less. none k (omega (arith, less))))

pub no_hit : (query : PosQuery) (game : GameTree) → None ≡ first_on_main query game → None ≡ hit_on_main query game
no_hit query game none = ap (λ (first : Option ℕ). option_map (λ (k : ℕ). (k, next_at game k)) first) none

-- No sought position can follow this one.
pub none_later : (query : PosQuery) (game : GameTree) (ply : ℕ) → IsAt query game ply → Sound game.start → IsLegalGame game
    → can_follow query (position_at game ply) ≡ false → None ≡ first_on_main query game
none_later query game ply at sound legal not = none_of query game (λ k within.
    elim (cases_lt k ply) [
      | inl before ↦ at.before k before
      | inr behind ↦ none_follows query game ply k sound legal behind within not
    ])

-- The line ends here.
pub none_at_end : (query : PosQuery) (game : GameTree) (ply : ℕ) → IsAt query game ply → matches_at query game ply ≡ false → plies_of game ≤ ply
    → None ≡ first_on_main query game
none_at_end query game ply at here last = none_of query game (λ k within.
    elim (cases_lt k ply) [
      | inl before ↦ at.before k before
      | inr behind ↦ subst (λ (n : ℕ). matches_at query game n ≡ false) (let same : ply ≡ k = omega (arith, behind, within, last) in same) here
    ])

-- The move after a match of an exact search is legal from the position that was reached.
pub legal_hit : (query : PosQuery) (p q : Setup) (ply : ℕ) (next : Option Move) → Sound p → matches query p ≡ true
    → ((m : Move) → next ≡ Some m → Step p m q) → IsLegalFrom query (Some (ply, next))
legal_hit query p q ply next sound holds steps k m exact same =
    let pair : (ply, next) ≡ (k, Some m) = cc in
    let is : next ≡ Some m = ap (λ (t : ℕ × Option Move). t.1) pair in
    let found = matched query p holds in
    let here : packed_of p.board p.side ≡ packed_of query.board query.side = λ j. packed_of (found.exact exact j) (found.side j) in
    legal_on p (packed_of query.board query.side) m sound (sym here) (q, steps m is)

-- No match has no move.
pub legal_none : (query : PosQuery) → IsLegalFrom query None
legal_none query k m exact same = absurd (cc)
