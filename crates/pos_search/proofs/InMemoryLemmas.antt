-- The walk over the main line of a game in memory.
use Rattle.std.proofs.Common.{◌≡◌, ℕ, ◌+◌, ◌<◌, ◌≤◌, zero, suc, true, false, Option, None, Some, List, [], ◌∷◌, length, get_or, refl, sym, ap, ◌∙◌, subst, arith, inl, inr}
use Rattle.std.specs.Prelude.{option_map, slice_get}
use Rattle.std.proofs.lemmas.Option.{slice_get_past}
use Rattle.cell_core.specs.declared.step.Move.{Move}
use Rattle.cell_core.specs.Packed.{Packed, men_of, packed_of}
use Rattle.cell_core.proofs.Packing.{given_back}
use Rattle.chess_laws.specs.Position.{Sound}
use Rattle.chess_laws.specs.Step.{Step}
use Rattle.chess_laws.specs.declared.setup.Setup.{Setup}
use Rattle.game_tree.specs.Game.{GameTree}
use Rattle.game_tree.specs.Legal.{IsLegalGame}
use Rattle.game_tree.specs.Replay.{next_at, plies_of, position_at}
use Rattle.game_tree.specs.Tree.{Line, Played, line_of, moves_of}
use Rattle.game_tree.proofs.LegalLemmas.{IsLegalGame-next}
use Rattle.game_tree.proofs.TreeLemmas.{length-moves_of}
use Rattle.pos_index.specs.Hits.{IsLegalOn}
use Rattle.pos_index.proofs.LegalMoves.{legal_on}
use Rattle.sig_index.specs.declared.pos_query.Mode.TheVariants.{Exact}
use Rattle.sig_index.specs.declared.pos_query.PosQuery.{PosQuery}
use Rattle.pos_search.specs.InMemory.{Seeks, next_of}
use Rattle.pos_search.specs.Matching.{matches, matches_at}
use Rattle.pos_search.specs.Sought.{IsTold, can_follow}
use Rattle.pos_search.specs.declared.coming.Coming.{Coming}
use Rattle.pos_search.proofs.AsideLemmas.{plain_hit}
use Rattle.pos_search.proofs.MatchLemmas.{matched}
use Rattle.pos_search.proofs.WalkLemmas.{IsAt, at_next, at_start, found_here, hit_here, no_hit, none_at_end, none_later}

-- What seeks a board is one query.
pub seeks_same : (query other : PosQuery) (board : Packed) → Seeks query board → Seeks other board → query ≡ other
seeks_same query other board a b =
    let same : packed_of query.board query.side ≡ packed_of other.board other.side = sym a.board ∙ b.board in
    let men : query.board ≡ other.board =
    sym (given_back query.board a.squares) ∙ ap (λ (k : Packed). men_of k.cells) same ∙ given_back other.board b.squares in
    let side = ap (λ (k : Packed). k.side) same in
    λ i. record { mode = (a.exact ∙ sym b.exact) i; board = men i; side = side i; vars = (a.main ∙ sym b.main) i }

-- The walk is at this ply of the game, and what is sought stands at none before it. What is kept of counts is so.
pub record IsWalked (query : PosQuery) (game : GameTree) (ply : ℕ) (p : Setup) (coming : Coming) : Type 0 where
  pub at : p ≡ position_at game ply
  pub before : IsAt query game ply
  pub told : IsTold query coming
  pub start : 0 < ply → Sound game.start

-- The game starts in a position that keeps the rules.
start_sound : (query : PosQuery) (game : GameTree) (ply : ℕ) (p : Setup) (coming : Coming) → IsWalked query game ply p coming → Sound p → Sound game.start
start_sound query game zero p coming so sound = subst Sound so.at sound
start_sound query game (suc ply) p coming so sound = so.start (omega arith)

pub walked-begin : (query : PosQuery) (game : GameTree) (p : Setup) (coming : Coming) → p ≡ game.start → IsTold query coming → IsWalked query game 0 p coming
walked-begin query game p coming start told = record {
  at = start;
  before = at_start query game 0 refl;
  told = told;
  start = λ less. absurd (omega (arith, less));
}

-- The line of a game, from its parts.
line_is : (game inside : GameTree) (line slice : List Played) → inside ≡ game → inside.line ≡ line_of line → slice ≡ line → game.line ≡ line_of slice
line_is game inside line slice view items same = sym (ap (λ (g : GameTree). g.line) view) ∙ items ∙ ap line_of (sym same)

plies_are : (game : GameTree) (line : List Played) → game.line ≡ line_of line → plies_of game ≡ length line
plies_are game line same = ap (λ (l : Line). length (moves_of l)) same ∙ length-moves_of line

-- A move of the line is the next one, and it is legal.
move_at : (line : List Played) (k : ℕ) (n : Played) → k < length line → slice_get (moves_of (line_of line)) k ≡ Some (get_or line k n).mv
move_at [] k n less = absurd (omega (arith, less))
move_at (first ∷ line) zero n less = refl
move_at (first ∷ line) (suc k) n less = move_at line k n (omega (arith, less))

pub next_move : (game inside : GameTree) (line slice : List Played) (ply : ℕ) (n seen : Played) → inside ≡ game → inside.line ≡ line_of line → slice ≡ line
    → ply < length slice → n ≡ get_or slice ply n → seen ≡ n → (next_at game ply ≡ Some seen.mv) × (ply < plies_of game)
next_move game inside line slice ply n seen view items same less is view' =
    let whole = line_is game inside line slice view items same in (
      ap (λ (l : Line). slice_get (moves_of l) ply) whole ∙ move_at slice ply n less ∙ ap (λ (played : Played). Some played.mv) (sym is ∙ sym view'),
      subst (λ (plies : ℕ). ply < plies) (sym (plies_are game slice whole)) less,
    )

-- The line ends behind the last.
pub line_ends : (game inside : GameTree) (line slice : List Played) (ply : ℕ) → inside ≡ game → inside.line ≡ line_of line → slice ≡ line
    → length slice ≤ ply → ply ≤ length slice → (ply ≡ plies_of game) × (next_at game ply ≡ None)
line_ends game inside line slice ply view items same past within =
    let whole = line_is game inside line slice view items same in
    let last : ply ≡ plies_of game = omega (arith, past, within, plies_are game slice whole) in
    (last, slice_get_past (moves_of game.line) ply (omega (arith, last)))

pub next_step : (game : GameTree) (p : Setup) (ply : ℕ) (m : Move) → IsLegalGame game → p ≡ position_at game ply → ply < plies_of game
    → next_at game ply ≡ Some m → Step p m (position_at game (ply + 1))
next_step game p ply m legal at less then =
    let step = IsLegalGame-next game legal ply less in
    let same : step.0 ≡ m = cc (step.1.0, then) in
    subst (λ (q : Setup). Step q m (position_at game (ply + 1))) (sym at)
    (subst (λ (n : Move). Step (position_at game ply) n (position_at game (ply + 1))) same step.1.1)

-- It goes on where the board does not stand.
pub walked-more : (query : PosQuery) (game : GameTree) (ply : ℕ) (p q : Setup) (m : Move) (coming later : Coming) → IsWalked query game ply p coming
    → Sound p → IsLegalGame game → matches query p ≡ false → IsTold query later → ply < plies_of game → next_at game ply ≡ Some m
    → ((r : Setup) → Step p m r → r ≡ q) → IsWalked query game (ply + 1) q later
walked-more query game ply p q m coming later so sound legal not told less then only = record {
  at = sym (only (position_at game (ply + 1)) (next_step game p ply m legal so.at less then));
  before = at_next query game ply (ply + 1) so.before (subst (λ (r : Setup). matches query r ≡ false) so.at not) refl;
  told = told;
  start = λ _. start_sound query game ply p coming so sound;
}

-- The board stands here, and this is the move then.
pub walked-found : (query : PosQuery) (game : GameTree) (ply : ℕ) (p : Setup) (next : Option Move) (coming : Coming) → IsWalked query game ply p coming
    → query.vars ≡ false → matches query p ≡ true → ply ≤ plies_of game → next ≡ next_at game ply → Some next ≡ next_of query game
walked-found query game ply p next coming so main here within is =
    let holds : matches_at query game ply ≡ true = subst (λ (r : Setup). matches query r ≡ true) so.at here in
    ap (option_map (λ (found : ℕ × Option Move). found.1))
    (hit_here query game ply next (found_here query game ply so.before within holds) is ∙ plain_hit query game main)

-- It can come no more.
pub walked-past : (query : PosQuery) (game : GameTree) (ply : ℕ) (p : Setup) (coming : Coming) → IsWalked query game ply p coming → query.vars ≡ false
    → Sound p → IsLegalGame game → can_follow query p ≡ false → None ≡ next_of query game
walked-past query game ply p coming so main sound legal not =
    let over : can_follow query (position_at game ply) ≡ false = subst (λ (r : Setup). can_follow query r ≡ false) so.at not in
    ap (option_map (λ (found : ℕ × Option Move). found.1))
    (no_hit query game (none_later query game ply so.before (start_sound query game ply p coming so sound) legal over) ∙ plain_hit query game main)

-- The line ends, and it stands nowhere.
pub walked-ended : (query : PosQuery) (game : GameTree) (ply : ℕ) (p : Setup) (coming : Coming) → IsWalked query game ply p coming → query.vars ≡ false
    → matches query p ≡ false → plies_of game ≤ ply → None ≡ next_of query game
walked-ended query game ply p coming so main not last =
    let fails : matches_at query game ply ≡ false = subst (λ (r : Setup). matches query r ≡ false) so.at not in
    ap (option_map (λ (found : ℕ × Option Move). found.1))
    (no_hit query game (none_at_end query game ply so.before fails last) ∙ plain_hit query game main)

-- The move is legal there.
pub legal_from : (query : PosQuery) (p q : Setup) (m : Move) → query.mode ≡ Exact → Sound p → matches query p ≡ true → Step p m q
    → IsLegalOn (packed_of query.board query.side) m
legal_from query p q m exact sound here step =
    let found = matched query p here in
    legal_on p (packed_of query.board query.side) m sound (λ i. packed_of (sym (found.exact exact) i) (sym found.side i)) (q, step)
