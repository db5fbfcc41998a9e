-- The pawns at home at a ply: all but the first of those that leave in the game.
use Rattle.std.proofs.Common.{◌≡◌, ℕ, ◌+◌, ◌-◌, ◌<◌, ◌≤◌, zero, suc, Bool, true, false, cond, not, ◌&&◌, ◌||◌, eqb, List, [], ◌∷◌, ◌++◌, length, take, refl, sym, ap, ◌∙◌, subst, arith, add-one, append_assoc, length-append}
use Rattle.std.specs.Prelude.{fold, replicate}
use Rattle.std.specs.Bool.{MatchBool}
use Rattle.std.specs.List.{list_all, list_any}
use Rattle.std.proofs.lemmas.Bool.{and_parts}
use Rattle.std.proofs.lemmas.List.Folds.{list_any-append}
use Rattle.cell_core.specs.declared.step.Move.{Move}
use Rattle.chess_laws.specs.Counts.{is_home}
use Rattle.chess_laws.specs.Position.{Sound, start_men, start_setup}
use Rattle.chess_laws.specs.Step.{Step, stepped}
use Rattle.chess_laws.specs.declared.setup.Setup.{Setup}
use Rattle.chess_laws.proofs.MovedKings.{Sound-after}
use Rattle.game_tree.specs.Game.{GameTree}
use Rattle.game_tree.specs.Legal.{IsLegalGame, IsLegalLine}
use Rattle.game_tree.specs.Replay.{plies_of, position_at}
use Rattle.game_tree.specs.Tree.{Line, ends, goes, moves_of}
use Rattle.sig_index.specs.declared.signature.HomeList.{HomeList}
use Rattle.sig_index.specs.declared.signature.Sig.{Sig}
use Rattle.sig_index.specs.Homes.{home_allows, home_set, is_all_but_first}
use Rattle.sig_index.specs.Left.{leaving_between, left_from}
use Rattle.sig_index.specs.Signature.{IsSig, all_homes, home_list, left_of}
use Rattle.sig_index.proofs.AllowLemmas.{front_found, home_bit, lacks_passes}
use Rattle.sig_index.proofs.HomeLemmas.{was_home}
use Rattle.sig_index.proofs.Paying.{stepped-Sound}
use Rattle.sig_index.proofs.Ranges.{all_each, any_passed}
use Rattle.sig_index.proofs.StepLemmas.{left_by_moves}
use Rattle.sig_index.proofs.SigOf.{parts}

-- ---- the moves of a main line by their numbers

-- A position that keeps the rules, and the legal move from it.
pub record Moves (p q : Setup) : Type 0 where
  pub sound : Sound p
  pub move : Move
  pub step : Step p move q

moves_along : (p : Setup) (l : Line) (k : ℕ) → Sound p → IsLegalLine p l → k < length (moves_of l)
    → Moves (fold stepped p (take k (moves_of l))) (fold stepped p (take (suc k) (moves_of l)))
moves_along p ends k sound legal less = absurd (omega (arith, less))
moves_along p (goes m nags comment variations line) zero sound legal less = record { sound = sound; move = m; step = legal.0 }
moves_along p (goes m nags comment variations line) (suc k) sound legal less =
    moves_along (stepped p m) line k (stepped-Sound p m sound legal.0) legal.1.1.1 (omega (arith, less))

pub moves_at : (game : GameTree) (k : ℕ) → Sound game.start → IsLegalGame game → k < plies_of game → Moves (position_at game k) (position_at game (k + 1))
moves_at game k sound legal less =
    subst (λ (n : ℕ). Moves (position_at game k) (position_at game n)) (sym (add-one k)) (moves_along game.start game.line k sound legal.line less)

-- The positions of a main line keep the rules.
pub sound_at : (game : GameTree) (k : ℕ) → Sound game.start → IsLegalGame game → k ≤ plies_of game → Sound (position_at game k)
sound_at game zero sound legal within = sound
sound_at game (suc k) sound legal within =
    let m = moves_at game k sound legal (omega (arith, within)) in
    let next : Sound (position_at game (k + 1)) = subst Sound (sym m.step.becomes) (Sound-after (position_at game k) m.move m.sound (position_at game (k + 1), m.step)) in
    subst (λ (n : ℕ). Sound (position_at game n)) (let same : k + 1 ≡ suc k = omega arith in same) next

-- ---- the pawns at home after some moves

-- It is at home after a move and some that follow.
home_by : (before after gone : Bool) → (after ≡ true → before ≡ true) → (after && not gone) ≡ (before && not ((before && not after) || gone))
home_by true true gone back = refl
home_by true false gone back = refl
home_by false true gone back = absurd (cc (back refl))
home_by false false gone back = refl

-- A pawn stands at home after some moves where it stood there before them and is not among those that left.
home_after : (game : GameTree) (v a n : ℕ) → Sound game.start → IsLegalGame game → v < 16 → a + n ≤ plies_of game
    → is_home (position_at game (a + n)).board v ≡ (is_home (position_at game a).board v && not (list_any (eqb v) (left_from game a n)))
home_after game v a zero sound legal small within =
    ap (λ (k : ℕ). is_home (position_at game k).board v) (let same : a + 0 ≡ a = omega arith in same) ∙ stays (is_home (position_at game a).board v)
  where
    stays : (t : Bool) → t ≡ (t && true)
    stays true = refl
    stays false = refl
home_after game v a (suc n) sound legal small within =
    let p = position_at game a in
    let q = position_at game (a + 1) in
    let moves = moves_at game a sound legal (omega (arith, within)) in
    let now : list_any (eqb v) (leaving_between p q) ≡ (is_home p.board v && not (is_home q.board v)) =
    any_passed (λ (w : ℕ). is_home p.board w && not (is_home q.board w)) v 0 16 (omega arith) small in
    let joined : list_any (eqb v) (leaving_between p q ++ left_from game (a + 1) n)
    ≡ ((is_home p.board v && not (is_home q.board v)) || list_any (eqb v) (left_from game (a + 1) n)) =
    list_any-append (eqb v) (leaving_between p q) (left_from game (a + 1) n) ∙ ap (λ (t : Bool). t || list_any (eqb v) (left_from game (a + 1) n)) now in
    ap (λ (k : ℕ). is_home (position_at game k).board v) (let same : a + suc n ≡ a + 1 + n = omega arith in same)
    ∙ home_after game v (a + 1) n sound legal small (omega (arith, within))
    ∙ home_by (is_home p.board v) (is_home q.board v) (list_any (eqb v) (left_from game (a + 1) n)) (λ after. was_home p moves.move q v moves.sound moves.step small after)
    ∙ ap (λ (t : Bool). is_home p.board v && not t) (sym joined)

-- A pawn that stands at home stood there at each ply before.
pub stood_before : (game : GameTree) (v i j : ℕ) → Sound game.start → IsLegalGame game → v < 16 → i ≤ j → j ≤ plies_of game
    → is_home (position_at game j).board v ≡ true → is_home (position_at game i).board v ≡ true
stood_before game v i j sound legal small later within home =
    let back : i + (j - i) ≡ j = omega (arith, later) in
    let after = home_after game v i (j - i) sound legal small (omega (arith, back, within)) in
    (and_parts (is_home (position_at game i).board v) (not (list_any (eqb v) (left_from game i (j - i))))
    (sym after ∙ ap (λ (k : ℕ). is_home (position_at game k).board v) back ∙ home)).0

-- Those that leave with the first moves, and then the others.
left_from-split : (game : GameTree) (a n m : ℕ) → left_from game a (n + m) ≡ left_from game a n ++ left_from game (a + n) m
left_from-split game a zero m =
    ap (λ (k : ℕ). left_from game a k) (let same : 0 + m ≡ m = omega arith in same)
    ∙ ap (λ (k : ℕ). left_from game k m) (let same : a ≡ a + 0 = omega arith in same)
left_from-split game a (suc n) m =
    let here = leaving_between (position_at game a) (position_at game (a + 1)) in
    ap (λ (k : ℕ). left_from game a k) (let same : suc n + m ≡ suc (n + m) = omega arith in same)
    ∙ ap (λ (rest : List ℕ). here ++ rest) (left_from-split game (a + 1) n m)
    ∙ ap (λ (k : ℕ). here ++ (left_from game (a + 1) n ++ left_from game k m)) (let same : a + 1 + n ≡ a + suc n = omega arith in same)
    ∙ sym (append_assoc here (left_from game (a + 1) n) (left_from game (a + suc n) m))

take-front : (xs ys : List ℕ) → take (length xs) (xs ++ ys) ≡ xs
take-front [] ys = refl
take-front (x ∷ xs) ys = ap (λ (rest : List ℕ). x ∷ rest) (take-front xs ys)

all_at_home : list_all (λ v. is_home start_men v) all_homes ≡ true
all_at_home = refl

-- The first of those that left, so many that the pawns at home are all others.
pub record Front (game : GameTree) (k : ℕ) : Type 0 where
  pub many : ℕ
  pub within : many ≤ length (left_of game)
  pub home : (v : ℕ) → v < 16 → is_home (position_at game k).board v ≡ not (list_any (eqb v) (take many (left_of game)))

pub front : (game : GameTree) (k : ℕ) → Sound game.start → IsLegalGame game → game.start ≡ start_setup → k ≤ plies_of game → Front game k
front game k sound legal start within =
    let first = left_from game 0 k in
    let later = left_from game (0 + k) (plies_of game - k) in
    let whole : left_of game ≡ first ++ later =
    left_by_moves game sound legal start
    ∙ ap (left_from game 0) (let same : plies_of game ≡ k + (plies_of game - k) = omega (arith, within) in same)
    ∙ left_from-split game 0 k (plies_of game - k) in
    let long : length (left_of game) ≡ length first + length later = ap length whole ∙ length-append first later in
    let is_first : take (length first) (left_of game) ≡ first = ap (take (length first)) whole ∙ take-front first later in
    let after : (v : ℕ) → v < 16 → is_home (position_at game k).board v ≡ (is_home game.start.board v && not (list_any (eqb v) first)) =
    λ v less. ap (λ (j : ℕ). is_home (position_at game j).board v) (let same : k ≡ 0 + k = omega arith in same)
    ∙ home_after game v 0 k sound legal less (omega (arith, within)) in
    let at_first : (v : ℕ) → v < 16 → is_home game.start.board v ≡ true =
    λ v less. ap (λ (s : Setup). is_home s.board v) start ∙ all_each (λ (w : ℕ). is_home start_men w) 0 16 v all_at_home (omega arith) less in
    record {
      many = length first;
      within = omega (arith, long);
      home = λ v less. after v less
          ∙ ap (λ (t : Bool). t && not (list_any (eqb v) first)) (at_first v less)
          ∙ ap (λ (left : List ℕ). not (list_any (eqb v) left)) (sym is_first);
    }

-- ---- the test

other_way : (t : Bool) (a b : ℕ) → cond (not t) b a ≡ cond t a b
other_way true a b = refl
other_way false a b = refl

allows_by : (game : GameTree) (k : ℕ) → Front game k → is_all_but_first (left_of game) (home_set (position_at game k).board) ≡ true
allows_by game k f =
    let men = (position_at game k).board in
    front_found (left_of game) (home_set men) f.many f.within
    (lacks_passes (take f.many (left_of game)) (home_set men)
    (λ v less. home_bit men v less
    ∙ ap (λ (t : Bool). cond t 1 0) (f.home v less)
    ∙ other_way (list_any (eqb v) (take f.many (left_of game))) 0 1))

kept_list : (l : HomeList) (left : List ℕ) → l ≡ home_list left → take l.count l.values ≡ left
kept_list l left is =
    ap (λ (h : HomeList). take h.count h.values) is ∙ take-front left (replicate (16 - length left) 0)

by_start : (own : Bool) (game : GameTree) (l : HomeList) (k : ℕ) → Sound game.start → IsLegalGame game → k ≤ plies_of game
    → MatchBool own (game.start ≡ start_setup → ⊥) (game.start ≡ start_setup) → l ≡ home_list (cond own [] (left_of game))
    → (own || is_all_but_first (take l.count l.values) (home_set (position_at game k).board)) ≡ true
by_start true game l k sound legal within other is = refl
by_start false game l k sound legal within start is =
    ap (λ (left : List ℕ). is_all_but_first left (home_set (position_at game k).board)) (kept_list l (left_of game) is)
    ∙ allows_by game k (front game k sound legal start within)

pub home_sound : (game : GameTree) (sig : Sig) (k : ℕ) → Sound game.start → IsLegalGame game → IsSig game sig → k ≤ plies_of game
    → home_allows sig (home_set (position_at game k).board) ≡ true
unfolding home_allows
home_sound game sig k sound legal is within =
    by_start sig.own_start game sig.home k sound legal within (parts game sig is).own_start (parts game sig is).home
