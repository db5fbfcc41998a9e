-- The home values that left are those of each move in turn.
use Rattle.std.proofs.Common.{◌≡◌, ℕ, ◌+◌, zero, suc, Bool, true, false, cond, not, ◌&&◌, List, [], ◌∷◌, ◌++◌, length, take, refl, sym, ap, ◌∙◌, subst, add-one}
use Rattle.std.specs.Prelude.{fold}
use Rattle.std.specs.List.{filter}
use Rattle.cell_core.specs.declared.step.Move.{Move}
use Rattle.chess_laws.specs.Counts.{is_home}
use Rattle.chess_laws.specs.Position.{Sound, start_setup}
use Rattle.chess_laws.specs.Step.{Step, stepped}
use Rattle.chess_laws.specs.declared.setup.Setup.{Setup}
use Rattle.chess_laws.proofs.MovedKings.{Sound-after}
use Rattle.game_tree.specs.Game.{GameTree}
use Rattle.game_tree.specs.Legal.{IsLegalGame, IsLegalLine}
use Rattle.game_tree.specs.Replay.{main_moves, position_at, plies_of}
use Rattle.game_tree.specs.Tree.{Line, ends, goes, moves_of}
use Rattle.sig_index.specs.Left.{leaving_between, left_from}
use Rattle.sig_index.specs.Signature.{all_homes, leaving, left_of}
use Rattle.sig_index.proofs.HomeLemmas.{was_home}
use Rattle.sig_index.proofs.LeavingLemmas.{all_small, along, along_is, filter_same}

-- ---- filters

both_at : (s t : Bool) (x : ℕ) (ys : List ℕ) → cond s (cond t (x ∷ ys) ys) ys ≡ cond (s && t) (x ∷ ys) ys
both_at true t x ys = refl
both_at false t x ys = refl

filter_cond : (g : ℕ → Bool) (t : Bool) (x : ℕ) (ys : List ℕ) → filter g (cond t (x ∷ ys) ys) ≡ cond t (cond (g x) (x ∷ filter g ys) (filter g ys)) (filter g ys)
filter_cond g true x ys = refl
filter_cond g false x ys = refl

filter_twice : (f g : ℕ → Bool) (xs : List ℕ) → filter g (filter f xs) ≡ filter (λ x. f x && g x) xs
filter_twice f g [] = refl
filter_twice f g (x ∷ xs) =
    filter_cond g (f x) x (filter f xs) ∙ both_at (f x) (g x) x (filter g (filter f xs))
    ∙ ap (λ (ys : List ℕ). cond (f x && g x) (x ∷ ys) ys) (filter_twice f g xs)

-- ---- one move

abbrev pub homes_of : Setup → List ℕ
homes_of p = filter (λ v. is_home p.board v) all_homes

both_home : (s t : Bool) → (t ≡ true → s ≡ true) → (s && t) ≡ t
both_home true t h = refl
both_home false true h = h refl
both_home false false h = refl

-- Those that are at home after a move, of those that were at home before it, are all that are at home after it.
still_home : (p : Setup) (m : Move) (q : Setup) → Sound p → Step p m q → filter (λ v. is_home q.board v) (homes_of p) ≡ homes_of q
still_home p m q sound step =
    filter_twice (λ v. is_home p.board v) (λ v. is_home q.board v) all_homes
    ∙ filter_same (λ v. is_home p.board v && is_home q.board v) (λ v. is_home q.board v) all_homes all_small
    (λ v small. both_home (is_home p.board v) (is_home q.board v) (λ h. was_home p m q v sound step small h))

-- ---- all moves

abbrev pub left_along : Setup → List Move → List ℕ
left_along p [] = []
left_along p (m ∷ moves) = leaving_between p (stepped p m) ++ left_along (stepped p m) moves

leaving_along : (p : Setup) (l : Line) → Sound p → IsLegalLine p l → leaving (homes_of p) (along p (moves_of l)) ≡ left_along p (moves_of l)
leaving_along p ends sound legal = refl
leaving_along p (goes m nags comment variations line) sound legal =
    let step = legal.0 in
    let q = stepped p m in
    let sound' : Sound q = subst Sound (sym step.becomes) (Sound-after p m sound (q, step)) in
    ap (λ (front : List ℕ). front ++ leaving (filter (λ v. is_home q.board v) (homes_of p)) (along q (moves_of line)))
    (filter_twice (λ v. is_home p.board v) (λ v. not (is_home q.board v)) all_homes)
    ∙ ap (λ (homes : List ℕ). leaving_between p q ++ leaving homes (along q (moves_of line))) (still_home p m q sound step)
    ∙ ap (λ (rest : List ℕ). leaving_between p q ++ rest) (leaving_along q line sound' legal.1.1.1)

-- ---- by the numbers of the moves

abbrev pub left_by : (ℕ → Setup) → ℕ → ℕ → List ℕ
left_by f k zero = []
left_by f k (suc n) = leaving_between (f k) (f (k + 1)) ++ left_by f (k + 1) n

left_by-shift : (f : ℕ → Setup) (k n : ℕ) → left_by f (k + 1) n ≡ left_by (λ j. f (j + 1)) k n
left_by-shift f k zero = refl
left_by-shift f k (suc n) = ap (λ (rest : List ℕ). leaving_between (f (k + 1)) (f (k + 1 + 1)) ++ rest) (left_by-shift f (k + 1) n)

left_by-along : (p : Setup) (moves : List Move) → left_by (λ k. fold stepped p (take k moves)) 0 (length moves) ≡ left_along p moves
left_by-along p [] = refl
left_by-along p (m ∷ moves) =
    let step : (k : ℕ) → fold stepped p (take (k + 1) (m ∷ moves)) ≡ fold stepped (stepped p m) (take k moves) =
    λ k. ap (λ j. fold stepped p (take j (m ∷ moves))) (add-one k) in
    ap (λ (rest : List ℕ). leaving_between p (stepped p m) ++ rest)
    (left_by-shift (λ k. fold stepped p (take k (m ∷ moves))) 0 (length moves)
    ∙ (λ i. left_by (λ k. step k i) 0 (length moves))
    ∙ left_by-along (stepped p m) moves)

left_from-by : (game : GameTree) (k n : ℕ) → left_from game k n ≡ left_by (position_at game) k n
left_from-by game k zero = refl
left_from-by game k (suc n) = ap (λ (rest : List ℕ). leaving_between (position_at game k) (position_at game (k + 1)) ++ rest) (left_from-by game (k + 1) n)

pub left_by_moves : (game : GameTree) → Sound game.start → IsLegalGame game → game.start ≡ start_setup → left_of game ≡ left_from game 0 (plies_of game)
left_by_moves game sound legal start =
    ap (leaving all_homes) (along_is game.start (main_moves game))
    ∙ ap (λ (p : Setup). leaving (homes_of p) (along game.start (main_moves game))) (sym start)
    ∙ leaving_along game.start game.line sound legal.line
    ∙ sym (left_by-along game.start (main_moves game))
    ∙ sym (left_from-by game 0 (plies_of game))
