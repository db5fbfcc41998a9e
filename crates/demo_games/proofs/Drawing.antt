-- Lines that are drawn: what the code draws, and that the moves are legal.
use Rattle.std.proofs.Common.{◌≡◌, ℕ, zero, suc, inl, inr, ◌+◌, ◌-◌, ◌%◌, ◌<◌, ◌≤◌, max, true, false, nat_lt, List, [], ◌∷◌, ◌++◌, Option, Some, None, map, length, get_or, slice_get, refl, sym, ◌∙◌, ap, subst, arith, append_assoc, append-nil}
use Rattle.std.proofs.lemmas.Bool.{cases_lt, cond_both, le-ltb, lt-ltb}
use Rattle.std.proofs.lemmas.List.Elements.{All-nil}
use Rattle.std.proofs.lemmas.Option.{slice_get_within, slice_get_past, slice_get_read, get_or_from_slice_get}
use Rattle.std.specs.Option.{option_map_or}
use Rattle.cell_core.specs.declared.step.Move.{Move}
use Rattle.chess_laws.specs.declared.setup.Setup.{Setup}
use Rattle.chess_laws.specs.Moves.{HasMoreMoves, ListsMoves}
use Rattle.chess_laws.specs.Position.{Sound, start_setup}
use Rattle.chess_laws.specs.Step.{Legal, stepped}
use Rattle.chess_laws.proofs.Start.{start-sound}
use Rattle.chess_laws.proofs.Stepping.{Legal-stepped}
use Rattle.game_tree.specs.Building.{bare}
use Rattle.game_tree.specs.Game.{GameTree}
use Rattle.game_tree.specs.declared.head.Head.{Head}
use Rattle.game_tree.specs.Kept.{IsGame, IsLine}
use Rattle.game_tree.specs.Legal.{IsLegalGame, IsLegalLine}
use Rattle.game_tree.specs.Replay.{plies_of}
use Rattle.game_tree.specs.Tree.{Played, depth_of, line_of, moves_of}
use Rattle.demo_games.specs.Demo.{after_draws, demo_game, demo_head, drawn, line_drawn, moves_drawn, next_number, picked, result_of}
use Rattle.demo_games.specs.Moves.{legal_moves}
use Rattle.demo_games.proofs.LegalList.{contains-is, lists-moves, more-moves}

-- The game of these moves from the initial position.
unfoldable pub game_of : List Move → GameTree
game_of moves = record { start = start_setup; lead = None; line = line_of (map bare moves) }

-- ---- one draw

picked-from : (draw : ℕ) (ms : List Move) → length ms ≤ 256 → picked draw ms ≡ slice_get ms (draw % length ms)
unfolding picked
picked-from draw ms few =
    let test : nat_lt 256 (length ms) ≡ false = le-ltb 256 (length ms) few in
    rw test refl

-- of the moves that are listed
pub picks-listed : (draw : ℕ) (p : Setup) (ms : List Move) → Sound p → ListsMoves p ms → (HasMoreMoves p 256 → ⊥) → picked draw (legal_moves p) ≡ slice_get ms (draw % length ms)
picks-listed draw p ms sound lists room =
    ap (picked draw) (sym (lists-moves p ms sound lists))
    ∙ picked-from draw ms (elim (cases_lt 256 (length ms)) [
      | inl many ↦ absurd (room (record { moves = ms; only = lists.only; in_order = lists.in_order; many = many }))
      | inr few ↦ few
    ])

pub picks-no_more : (draw : ℕ) (p : Setup) → Sound p → HasMoreMoves p 256 → picked draw (legal_moves p) ≡ None
unfolding picked
picks-no_more draw p sound more =
    let test : nat_lt 256 (length (legal_moves p)) ≡ true = lt-ltb 256 (length (legal_moves p)) (more-moves p 256 sound more) in
    rw test refl

-- The same with what the code knows there.
pub draws_no_more : (draw : ℕ) (p : Setup) → Sound p → HasMoreMoves p 256 → None ≡ picked draw (legal_moves p)
draws_no_more draw p sound more = sym (picks-no_more draw p sound more)

pub draws_none_of : (draw : ℕ) (p : Setup) (ms slice : List Move) → Sound p → ListsMoves p ms → (HasMoreMoves p 256 → ⊥) → slice ≡ ms → length slice ≡ 0 → None ≡ picked draw (legal_moves p)
draws_none_of draw p ms slice sound lists room same none =
    let empty : length ms ≡ 0 = ap (λ (l : List Move). length l) (sym same) ∙ none in
    sym (picks-listed draw p ms sound lists room ∙ slice_get_past ms (draw % length ms) (omega (arith, empty)))

pub draws_one_of : (draw place : ℕ) (p : Setup) (ms slice : List Move) (m : Move) → Sound p → ListsMoves p ms → (HasMoreMoves p 256 → ⊥) → slice ≡ ms → place ≡ draw % length slice → place < length slice
    → m ≡ get_or slice place m → Some m ≡ picked draw (legal_moves p)
draws_one_of draw place p ms slice m sound lists room same at within is =
    let P : List Move → Type 0 = λ l. picked draw (legal_moves p) ≡ slice_get l (draw % length l) in
    let listed : picked draw (legal_moves p) ≡ slice_get slice (draw % length slice) = subst P (sym same) (picks-listed draw p ms sound lists room) in
    sym (listed ∙ ap (slice_get slice) (sym at) ∙ slice_get_read slice (length slice) place m refl within is)

picked-legal : (draw : ℕ) (p : Setup) (m : Move) → picked draw (legal_moves p) ≡ Some m → Legal p m
unfolding picked
picked-legal draw p m =
    cond_both (nat_lt 256 (length (legal_moves p))) None (slice_get (legal_moves p) (draw % length (legal_moves p))) (λ o. o ≡ Some m → Legal p m)
    (λ _ h. absurd (cc))
    (λ _ h.
    let k : ℕ = draw % length (legal_moves p) in
    (contains-is p m (k, slice_get_within (legal_moves p) k m h, get_or_from_slice_get (legal_moves p) k m m h)).legal)

-- ---- the loop over the plies

more-plies : (k : ℕ) → k < 60 → 60 - k ≡ suc (60 - (k + 1))
more-plies k less = omega arith

goes-on : (k x : ℕ) (p : Setup) (m : Move) → k < 60 → picked (drawn x) (legal_moves p) ≡ Some m → line_drawn (60 - k) x p ≡ m ∷ line_drawn (60 - (k + 1)) (next_number x) (stepped p m)
goes-on k x p m less h =
    ap (λ n. line_drawn n x p) (more-plies k less) ∙ ap (λ o. option_map_or (λ mv. mv ∷ line_drawn (60 - (k + 1)) (next_number x) (stepped p mv)) o []) h

ends-here : (k x : ℕ) (p : Setup) → k < 60 → picked (drawn x) (legal_moves p) ≡ None → line_drawn (60 - k) x p ≡ []
ends-here k x p less h =
    ap (λ n. line_drawn n x p) (more-plies k less) ∙ ap (λ o. option_map_or (λ mv. mv ∷ line_drawn (60 - (k + 1)) (next_number x) (stepped p mv)) o []) h

-- What is left of the line from here leads to all of it.
pub record Drawing (k x : ℕ) (p : Setup) (done : List Played) (from : ℕ) : Type 0 where
  pub moves : done ++ map bare (line_drawn (60 - k) x p) ≡ map bare (moves_drawn from)
  pub left : after_draws (length (line_drawn (60 - k) x p)) x ≡ after_draws (length (moves_drawn from)) from

draws-nothing : (from : ℕ) → Drawing 0 from start_setup [] from
unfolding moves_drawn
draws-nothing from = record { moves = refl; left = refl }

pub draws_first : (from : ℕ) (p : Setup) (done : List Played) → p ≡ start_setup → done ≡ [] → Drawing 0 from p done from
draws_first from p done at none =
    let D : Setup → List Played → Type 0 = λ q l. Drawing 0 from q l from in
    subst (λ q. D q done) (sym at) (subst (D start_setup) (sym none) (draws-nothing from))

one-more : (k x from : ℕ) (p : Setup) (m : Move) (done : List Played) → k < 60 → picked (drawn x) (legal_moves p) ≡ Some m → Drawing k x p done from
    → Drawing (k + 1) (next_number x) (stepped p m) (done ++ bare m ∷ []) from
one-more k x from p m done less h so_far =
    let step = goes-on k x p m less h in
    record {
      moves = append_assoc done (bare m ∷ []) (map bare (line_drawn (60 - (k + 1)) (next_number x) (stepped p m))) ∙ ap (λ ms. done ++ map bare ms) (sym step) ∙ so_far.moves;
      left = ap (λ ms. after_draws (length ms) x) (sym step) ∙ so_far.left;
    }

-- One ply more: x has become y, the position q, and the move stands behind the others.
pub draws_on : (k x y from : ℕ) (p q : Setup) (m : Move) (node : Played) (done more : List Played) → k < 60 → Some m ≡ picked (drawn x) (legal_moves p) → y ≡ next_number x → q ≡ stepped p m → node ≡ bare m
    → more ≡ done ++ node ∷ [] → Drawing k x p done from → Drawing (k + 1) y q more from
draws_on k x y from p q m node done more less h next steps is pushed so_far =
    let all : more ≡ done ++ bare m ∷ [] = pushed ∙ ap (λ n. done ++ n ∷ []) is in
    let D : ℕ → Setup → List Played → Type 0 = λ z r l. Drawing (k + 1) z r l from in
    subst (λ z. D z q more) (sym next) (subst (λ r. D (next_number x) r more) (sym steps) (subst (D (next_number x) (stepped p m)) (sym all) (one-more k x from p m done less (sym h) so_far)))

-- Where no move is drawn all of it is, and after the last ply.
moves-all : (k x from : ℕ) (p : Setup) (done : List Played) → line_drawn (60 - k) x p ≡ [] → Drawing k x p done from → done ≡ map bare (moves_drawn from)
moves-all k x from p done none so_far = sym (append-nil done) ∙ ap (λ ms. done ++ map bare ms) (sym none) ∙ so_far.moves

left-all : (k x from : ℕ) (p : Setup) (done : List Played) → line_drawn (60 - k) x p ≡ [] → Drawing k x p done from → x ≡ after_draws (length (moves_drawn from)) from
left-all k x from p done none so_far = ap (λ ms. after_draws (length ms) x) (sym none) ∙ so_far.left

pub ended_moves : (k x from : ℕ) (p : Setup) (done : List Played) → k < 60 → None ≡ picked (drawn x) (legal_moves p) → Drawing k x p done from → done ≡ map bare (moves_drawn from)
ended_moves k x from p done less none so_far = moves-all k x from p done (ends-here k x p less (sym none)) so_far

pub ended_left : (k x y from : ℕ) (p : Setup) (done : List Played) → k < 60 → None ≡ picked (drawn x) (legal_moves p) → y ≡ x → Drawing k x p done from → y ≡ after_draws (length (moves_drawn from)) from
ended_left k x y from p done less none same so_far = same ∙ left-all k x from p done (ends-here k x p less (sym none)) so_far

pub whole_moves : (x from : ℕ) (p : Setup) (done : List Played) → Drawing 60 x p done from → done ≡ map bare (moves_drawn from)
whole_moves x from p done so_far = moves-all 60 x from p done refl so_far

pub whole_left : (x from : ℕ) (p : Setup) (done : List Played) → Drawing 60 x p done from → x ≡ after_draws (length (moves_drawn from)) from
whole_left x from p done so_far = left-all 60 x from p done refl so_far

-- ---- the game

one-legal : (p : Setup) (next : Option Move) (later : Move → List Move) → ((m : Move) → next ≡ Some m → Legal p m)
    → ((m : Move) → IsLegalLine (stepped p m) (line_of (map bare (later m)))) → IsLegalLine p (line_of (map bare (option_map_or (λ m. m ∷ later m) next [])))
one-legal p None later legal rest = tt
one-legal p (Some m) later legal rest = (Legal-stepped p m (legal m refl), (tt, (tt, rest m)))

line-legal : (plies x : ℕ) (p : Setup) → IsLegalLine p (line_of (map bare (line_drawn plies x p)))
line-legal zero x p = tt
line-legal (suc plies) x p =
    one-legal p (picked (drawn x) (legal_moves p)) (λ m. line_drawn plies (next_number x) (stepped p m)) (λ m h. picked-legal (drawn x) p m h)
    (λ m. line-legal plies (next_number x) (stepped p m))

no-variation : (moves : List Move) → depth_of (line_of (map bare moves)) ≡ 0
no-variation [] = refl
no-variation (m ∷ moves) = ap (max 0) (no-variation moves)

pub game-legal : (from : ℕ) → IsLegalGame (game_of (moves_drawn from))
unfolding game_of moves_drawn
game-legal from = record {
  lead = tt;
  line = line-legal 60 from start_setup;
  depth = omega (arith, no-variation (line_drawn 60 from start_setup));
}

-- ---- its length

moves-back : (moves : List Move) → moves_of (line_of (map bare moves)) ≡ moves
moves-back [] = refl
moves-back (m ∷ moves) = ap (λ ms. m ∷ ms) (moves-back moves)

one-short : (plies : ℕ) (next : Option Move) (later : Move → List Move) → ((m : Move) → length (later m) ≤ plies) → length (option_map_or (λ m. m ∷ later m) next []) ≤ suc plies
one-short plies None later short = omega arith
one-short plies (Some m) later short = omega (arith, short m)

line-short : (plies x : ℕ) (p : Setup) → length (line_drawn plies x p) ≤ plies
line-short zero x p = omega arith
line-short (suc plies) x p =
    one-short plies (picked (drawn x) (legal_moves p)) (λ m. line_drawn plies (next_number x) (stepped p m)) (λ m. line-short plies (next_number x) (stepped p m))

pub game-short : (from : ℕ) → plies_of (game_of (moves_drawn from)) ≤ 60
unfolding game_of moves_drawn
game-short from =
    let same = ap (λ (ms : List Move). length ms) (moves-back (line_drawn 60 from start_setup)) in
    omega (arith, same, line-short 60 from start_setup)

-- ---- what the code makes

legal-by : (game made : GameTree) → made ≡ game → IsLegalGame game → IsLegalGame made
legal-by game made is legal = subst IsLegalGame (sym is) legal

short-by : (game made : GameTree) → made ≡ game → plies_of game ≤ 60 → plies_of made ≤ 60
short-by game made is short = let P : GameTree → Type 0 = λ g. plies_of g ≤ 60 in subst P (sym is) short

made-game : (from : ℕ) (start : Setup) (items : List Played) → start ≡ start_setup → items ≡ map bare (moves_drawn from) → record { start = start; lead = None; line = line_of items } ≡ game_of (moves_drawn from)
unfolding game_of
made-game from start items at is = λ i. record { start = at i; lead = None; line = line_of (is i) }

line-kept : (moves : List Move) → IsLine (line_of (map bare moves))
line-kept [] = tt
line-kept (m ∷ moves) = (All-nil (λ nag. nag < 256), (tt, (tt, line-kept moves)))

-- It keeps what every game keeps.
pub made_kept : (moves : List Move) (start : Setup) (items : List Played) → start ≡ start_setup → items ≡ map bare moves → IsGame (record { start = start; lead = None; line = line_of items })
made_kept moves start items at is =
    let P : List Played → Type 0 = λ l. IsLine (line_of l) in
    record { start = subst Sound (sym at) start-sound; lead = tt; line = subst P (sym is) (line-kept moves) }

pub made_legal : (from : ℕ) (start : Setup) (items : List Played) → start ≡ start_setup → items ≡ map bare (moves_drawn from) → IsLegalGame (record { start = start; lead = None; line = line_of items })
made_legal from start items at is = legal-by _ _ (made-game from start items at is) (game-legal from)

pub made_short : (from : ℕ) (start : Setup) (items : List Played) → start ≡ start_setup → items ≡ map bare (moves_drawn from) → plies_of (record { start = start; lead = None; line = line_of items }) ≤ 60
made_short from start items at is = short-by _ _ (made-game from start items at is) (game-short from)

pub made_is : (x number left : ℕ) (head : Head) (start : Setup) (items : List Played) → head ≡ demo_head number (result_of (drawn x % 4)) → start ≡ start_setup
    → items ≡ map bare (moves_drawn (next_number x)) → left ≡ after_draws (length (moves_drawn (next_number x))) (next_number x)
    → demo_game x number ≡ record { head = head; game = record { start = start; lead = None; line = line_of items }; left = left }
unfolding demo_game game_of
made_is x number left head start items named at is behind =
    λ i. record { head = sym named i; game = sym (made-game (next_number x) start items at is) i; left = sym behind i }
