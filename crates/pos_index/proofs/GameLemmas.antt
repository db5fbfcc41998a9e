-- The places of a game, one after the other.
use Rattle.std.proofs.Common.{◌≡◌, ◌≤◌, ◌<◌, ◌+◌, ◌-◌, ℕ, zero, suc, Bool, true, cond, nat_lt, List, [], ◌∷◌, ◌++◌, None, Some, Option, length, length-append, length-take-le, get_or, set, map, min, take, drop, refl, sym, ap, ◌∙◌, subst, arith, add-one, inl, inr}
use Rattle.std.specs.Prelude.{All, IfSome, false, is_none, option_map, slice_get}
use Rattle.std.proofs.lemmas.List.Elements.{All-cons, All-nil, All-push}
use Rattle.std.specs.List.{range_with_len}
use Rattle.std.proofs.lemmas.Option.{slice_get-get_or, slice_get_past}
use Rattle.std.proofs.lemmas.List.{append-nil, append_assoc, drop_at, drop_more, get_or-append_right, get_or-set_same, get_or-take, get_or_append_left, length-drop, length-map, length-set, length_push, map-append, set-get_or, set-set, set_at, take-append-le, take-map, take_at, take-append-drop}
use Rattle.std.proofs.lemmas.Bool.{cases_eq, le-ltb, lt-ltb, ltb-false, ltb-true}
use Rattle.cell_core.specs.declared.step.Move.{Move}
use Rattle.cell_core.specs.Packed.{Packed, packed_of}
use Rattle.chess_laws.specs.declared.setup.Setup.{Setup}
use Rattle.chess_laws.specs.Position.{Sound}
use Rattle.chess_laws.specs.Step.{Step}
use Rattle.game_tree.specs.Game.{GameTree}
use Rattle.game_tree.specs.Legal.{IsLegalGame}
use Rattle.game_tree.proofs.LegalLemmas.{IsLegalGame-next}
use Rattle.game_tree.specs.Replay.{main_moves, next_at, plies_of, position_at}
use Rattle.game_tree.specs.Tree.{Played, line_of, moves_of}
use Rattle.sig_index.proofs.PrefixLemmas.{moves_at}
use Rattle.sig_index.proofs.RecordLemmas.{no_next}
use Rattle.pos_index.specs.Hits.{IsLegalOn, IsLegalPlace, IsRow, Place, place_at, places_of}
use Rattle.pos_index.specs.Keeping.{AreAlike, HasPut, HasPutAtMost, IsPlaceOn, first_places, next_put, place_in, row_in, with_row}
use Rattle.pos_index.proofs.IndexLemmas.{length-range, places_few}
use Rattle.pos_index.proofs.LegalMoves.{legal_on}

range_next : (a n : ℕ) → range_with_len a (suc n) ≡ range_with_len a n ++ (a + n) ∷ []
range_next a zero = ap (λ (k : ℕ). k ∷ []) (let same : a ≡ a + 0 = omega arith in same)
range_next a (suc n) =
    ap (λ (rest : List ℕ). a ∷ rest) (range_next (a + 1) n)
    ∙ ap (λ (k : ℕ). range_with_len a (suc n) ++ k ∷ []) (let same : a + 1 + n ≡ a + suc n = omega arith in same)

pub place_next : (game : GameTree) (n : ℕ) → first_places game (n + 1) ≡ first_places game n ++ place_at game n ∷ []
place_next game n =
    ap (first_places game) (add-one n) ∙ ap (map (place_at game)) (range_next 0 n) ∙ map-append (place_at game) (range_with_len 0 n) ((0 + n) ∷ [])
    ∙ ap (λ (k : ℕ). first_places game n ++ place_at game k ∷ []) (let same : 0 + n ≡ n = omega arith in same)

-- The first places of the game are put behind those that number i had.
pub record SoFar (game : GameTree) (old : List (List Place)) (i ply : ℕ) (now : List (List Place)) : Type 0 where
  pub put : now ≡ with_row old i (row_in old i ++ first_places game ply)
  pub within : ply ≤ plies_of game

pub so_far-begin : (game : GameTree) (old : List (List Place)) (i : ℕ) → SoFar game old i 0 old
so_far-begin game old i = record {
  put = sym (ap (with_row old i) (append-nil (row_in old i)) ∙ set-get_or old i []);
  within = omega arith;
}

take-first : (game : GameTree) (m n : ℕ) → n ≤ m → take n (first_places game m) ≡ first_places game n
take-first game m n le = take-map (place_at game) n (range_with_len 0 m) ∙ ap (map (place_at game)) (shorter 0 m n le)
  where
    shorter : (a m n : ℕ) → n ≤ m → take n (range_with_len a m) ≡ range_with_len a n
    shorter a m zero le = refl
    shorter a zero (suc n) le = absurd (omega (arith, le))
    shorter a (suc m) (suc n) le = ap (λ (l : List ℕ). a ∷ l) (shorter (a + 1) m n (omega (arith, le)))

-- Places more in a row.
rows_more : (old now next : List (List Place)) (i : ℕ) (places more : List Place) → i < length old → now ≡ with_row old i (row_in old i ++ places)
    → next ≡ with_row now i (row_in now i ++ more) → next ≡ with_row old i (row_in old i ++ (places ++ more))
rows_more old now next i places more lt is put =
    put ∙ ap (λ (l : List (List Place)). with_row l i (row_in l i ++ more)) is
    ∙ set-set old i (row_in old i ++ places) (row_in (with_row old i (row_in old i ++ places)) i ++ more)
    ∙ ap (λ (r : List Place). with_row old i (r ++ more)) (get_or-set_same old i (row_in old i ++ places) [] lt)
    ∙ ap (with_row old i) (append_assoc (row_in old i) places more)

row_more : (old now next : List (List Place)) (i : ℕ) (places : List Place) (place : Place) → i < length old → now ≡ with_row old i (row_in old i ++ places)
    → next ≡ with_row now i (row_in now i ++ place ∷ []) → next ≡ with_row old i (row_in old i ++ (places ++ place ∷ []))
row_more old now next i places place lt is more = rows_more old now next i places (place ∷ []) lt is more

pub so_far-put : (game : GameTree) (old now next : List (List Place)) (i ply : ℕ) (place : Place) → SoFar game old i ply now → i < length old
    → next ≡ with_row now i (row_in now i ++ place ∷ []) → place ≡ place_at game ply → next ≡ with_row old i (row_in old i ++ first_places game (ply + 1))
so_far-put game old now next i ply place so lt more at =
    row_more old now next i (first_places game ply) place lt so.put more
    ∙ ap (λ (l : List Place). with_row old i (row_in old i ++ l)) (ap (λ (p : Place). first_places game ply ++ p ∷ []) at ∙ sym (place_next game ply))

-- The place is that of the game.
pub place_is : (game : GameTree) (p : Setup) (ply : ℕ) (place : Place) (next : Option Move) → p ≡ position_at game ply → next ≡ next_at game ply
    → place ≡ record { board = packed_of p.board p.side; ply = ply; next = next } → place ≡ place_at game ply
place_is game p ply place next at then is = is ∙ (λ i. record { board = packed_of (at i).board (at i).side; ply = ply; next = then i })

-- There are no more: the line ends, or the depth is reached.
pub ended : (game : GameTree) (depth ply : ℕ) → next_at game ply ≡ None → ply ≤ plies_of game → ply < depth + 1 → first_places game (ply + 1) ≡ places_of depth game
ended game depth ply none within below =
    let past = no_next game ply none in
    ap (first_places game) (let same : ply + 1 ≡ min depth (plies_of game) + 1 = omega (arith, past, within, below) in same)

pub full : (game : GameTree) (depth ply : ℕ) → ply ≡ depth + 1 → ply ≤ plies_of game → first_places game ply ≡ places_of depth game
full game depth ply end within = ap (first_places game) (let same : ply ≡ min depth (plies_of game) + 1 = omega (arith, end, within) in same)

pub so_far-full : (game : GameTree) (old now : List (List Place)) (i depth ply : ℕ) → SoFar game old i ply now → ply ≡ depth + 1
    → now ≡ with_row old i (row_in old i ++ places_of depth game)
so_far-full game old now i depth ply so end = so.put ∙ ap (λ (l : List Place). with_row old i (row_in old i ++ l)) (full game depth ply end so.within)

pub so_far-ended : (game : GameTree) (old now next : List (List Place)) (i depth ply : ℕ) (place : Place) → SoFar game old i ply now → i < length old
    → next ≡ with_row now i (row_in now i ++ place ∷ []) → place ≡ place_at game ply → next_at game ply ≡ None → ply < depth + 1
    → next ≡ with_row old i (row_in old i ++ places_of depth game)
so_far-ended game old now next i depth ply place so lt more at none below =
    so_far-put game old now next i ply place so lt more at ∙ ap (λ (l : List Place). with_row old i (row_in old i ++ l)) (ended game depth ply none so.within below)

-- There is a next move, so the ply behind it is one of the game.
pub next_within : (game : GameTree) (ply : ℕ) (m : Move) → next_at game ply ≡ Some m → ply + 1 ≤ plies_of game
next_within game ply m is = slice_get_some (main_moves game) ply m is
  where
    slice_get_some : (xs : List Move) (k : ℕ) (x : Move) → slice_get xs k ≡ Some x → k + 1 ≤ length xs
    slice_get_some [] k x e = absurd (cc)
    slice_get_some (y ∷ xs) zero x e = omega arith
    slice_get_some (y ∷ xs) (suc k) x e = omega (arith, slice_get_some xs k x e)

pub so_far-more : (game : GameTree) (old now next : List (List Place)) (i ply : ℕ) (place : Place) (m : Move) → SoFar game old i ply now → i < length old
    → next ≡ with_row now i (row_in now i ++ place ∷ []) → place ≡ place_at game ply → next_at game ply ≡ Some m → SoFar game old i (ply + 1) next
so_far-more game old now next i ply place m so lt more at then = record {
  put = so_far-put game old now next i ply place so lt more at;
  within = next_within game ply m then;
}

-- ---- but for the first places

length-first : (game : GameTree) (n : ℕ) → length (first_places game n) ≡ n
length-first game n = length-map (range_with_len 0 n) (place_at game) ∙ length-range 0 n

pub length-places : (depth : ℕ) (game : GameTree) → length (places_of depth game) ≡ min depth (plies_of game) + 1
length-places depth game = length-first game (min depth (plies_of game) + 1)

drop_none : (n : ℕ) → drop {A = Place} n [] ≡ []
drop_none zero = refl
drop_none (suc n) = refl

drop_push : (n : ℕ) (xs : List Place) (x : Place) → drop n (xs ++ x ∷ []) ≡ drop n xs ++ cond (nat_lt (length xs) n) [] (x ∷ [])
drop_push zero xs x = rw (le-ltb (length xs) 0 (omega arith)) refl
drop_push (suc n) [] x = rw (lt-ltb 0 (suc n) (omega arith)) (drop_none n)
drop_push (suc n) (y ∷ xs) x =
    drop_push n xs x ∙ ap (λ (t : Bool). drop n xs ++ cond t [] (x ∷ [])) (by (nat_lt (length xs) n) refl)
  where
    by : (t : Bool) → nat_lt (length xs) n ≡ t → nat_lt (length xs) n ≡ nat_lt (suc (length xs)) (suc n)
    by true e = e ∙ sym (lt-ltb (suc (length xs)) (suc n) (omega (arith, ltb-true (length xs) n e)))
    by false e = e ∙ sym (le-ltb (suc (length xs)) (suc n) (omega (arith, ltb-false (length xs) n e)))

-- A place, if it is none of the first ones.
abbrev pub unless_first : ℕ → ℕ → Place → List Place
unless_first from ply place = cond (nat_lt ply from) [] (place ∷ [])

from_next : (game : GameTree) (from ply : ℕ) → drop from (first_places game (ply + 1)) ≡ drop from (first_places game ply) ++ unless_first from ply (place_at game ply)
from_next game from ply =
    ap (drop from) (place_next game ply) ∙ drop_push from (first_places game ply) (place_at game ply)
    ∙ ap (λ (n : ℕ). drop from (first_places game ply) ++ unless_first from n (place_at game ply)) (length-first game ply)

pub record SoFrom (game : GameTree) (from : ℕ) (old : List (List Place)) (i ply : ℕ) (now : List (List Place)) : Type 0 where
  pub put : now ≡ with_row old i (row_in old i ++ drop from (first_places game ply))
  pub within : ply ≤ plies_of game

pub so_from-begin : (game : GameTree) (from : ℕ) (old : List (List Place)) (i : ℕ) → SoFrom game from old i 0 old
so_from-begin game from old i = record {
  put = sym (ap (λ (l : List Place). with_row old i (row_in old i ++ l)) (drop_none from) ∙ ap (with_row old i) (append-nil (row_in old i)) ∙ set-get_or old i []);
  within = omega arith;
}

so_from-put : (game : GameTree) (from : ℕ) (old now next : List (List Place)) (i ply : ℕ) (place : Place) → SoFrom game from old i ply now → i < length old
    → next ≡ with_row now i (row_in now i ++ unless_first from ply place) → place ≡ place_at game ply → next ≡ with_row old i (row_in old i ++ drop from (first_places game (ply + 1)))
so_from-put game from old now next i ply place so lt more at =
    rows_more old now next i (drop from (first_places game ply)) (unless_first from ply place) lt so.put more
    ∙ ap (λ (l : List Place). with_row old i (row_in old i ++ l))
    (ap (λ (p : Place). drop from (first_places game ply) ++ unless_first from ply p) at ∙ sym (from_next game from ply))

pub so_from-full : (game : GameTree) (from : ℕ) (old now : List (List Place)) (i depth ply : ℕ) → SoFrom game from old i ply now → ply ≡ depth + 1
    → now ≡ with_row old i (row_in old i ++ drop from (places_of depth game))
so_from-full game from old now i depth ply so end = so.put ∙ ap (λ (l : List Place). with_row old i (row_in old i ++ drop from l)) (full game depth ply end so.within)

pub so_from-ended : (game : GameTree) (from : ℕ) (old now next : List (List Place)) (i depth ply : ℕ) (place : Place) → SoFrom game from old i ply now → i < length old
    → next ≡ with_row now i (row_in now i ++ unless_first from ply place) → place ≡ place_at game ply → next_at game ply ≡ None → ply < depth + 1
    → next ≡ with_row old i (row_in old i ++ drop from (places_of depth game))
so_from-ended game from old now next i depth ply place so lt more at none below =
    so_from-put game from old now next i ply place so lt more at ∙ ap (λ (l : List Place). with_row old i (row_in old i ++ drop from l)) (ended game depth ply none so.within below)

pub so_from-more : (game : GameTree) (from : ℕ) (old now next : List (List Place)) (i ply : ℕ) (place : Place) (m : Move) → SoFrom game from old i ply now → i < length old
    → next ≡ with_row now i (row_in now i ++ unless_first from ply place) → place ≡ place_at game ply → next_at game ply ≡ Some m → SoFrom game from old i (ply + 1) next
so_from-more game from old now next i ply place m so lt more at then = record {
  put = so_from-put game from old now next i ply place so lt more at;
  within = next_within game ply m then;
}

-- ---- the places with which a row and a game both begin

pub record Common (row : List Place) (game : GameTree) (n : ℕ) : Type 0 where
  pub alike : AreAlike row game n
  pub within : n ≤ plies_of game

pub common-none : (row : List Place) (game : GameTree) → Common row game 0
common-none row game = record { alike = record { within = omega arith; each = λ k lt. absurd (omega (arith, lt)) }; within = omega arith }

pub alike-more : (row : List Place) (game : GameTree) (n : ℕ) (board : Packed) → AreAlike row game n → n < length row → IsPlaceOn board n (place_in row n)
    → board ≡ (place_at game n).board → AreAlike row game (n + 1)
alike-more row game n board so lt on is = record {
  within = omega (arith, lt);
  each = λ k below. elim (cases_eq k n) [
    | inl same ↦
        subst (λ (m : ℕ). IsPlaceOn (place_at game m).board m (place_in row m)) (sym same)
        (record { board_is = on.board_is ∙ is; ply_is = on.ply_is })
    | inr differs ↦ so.each k (omega (arith, below, differs))
  ];
}

pub few-at : (depth n : ℕ) (game : GameTree) → n ≤ depth + 1 → n ≤ plies_of game → n ≤ length (places_of depth game)
few-at depth n game le within = omega (arith, le, within, length-places depth game)

pub few-end : (depth n : ℕ) (game : GameTree) → n < depth + 1 → n ≤ plies_of game → n + 1 ≤ length (places_of depth game)
few-end depth n game lt within = omega (arith, lt, within, length-places depth game)

-- ---- the moves after them

-- The first places of the row have their moves.
abbrev pub nexts_so : GameTree → List (List Place) → ℕ → ℕ → List (List Place)
nexts_so game old i k = with_row old i (first_places game k ++ drop k (row_in old i))

pub nexts-none : (game : GameTree) (old : List (List Place)) (i : ℕ) → old ≡ nexts_so game old i 0
nexts-none game old i = sym (set-get_or old i [])

nexts-row : (game : GameTree) (old now : List (List Place)) (i k : ℕ) → i < length old → now ≡ nexts_so game old i k → row_in now i ≡ first_places game k ++ drop k (row_in old i)
nexts-row game old now i k lt is = ap (λ (l : List (List Place)). row_in l i) is ∙ get_or-set_same old i (first_places game k ++ drop k (row_in old i)) [] lt

pub nexts-within : (game : GameTree) (old now : List (List Place)) (i k n : ℕ) → i < length old → now ≡ nexts_so game old i k → AreAlike (row_in old i) game n → k < n → k < length (row_in now i)
nexts-within game old now i k n lt is alike below =
    omega (arith, below, alike.within, ap length (nexts-row game old now i k lt is), length-append (first_places game k) (drop k (row_in old i)), length-first game k, length-drop k (row_in old i))

pub nexts-there : (old now : List (List Place)) (i : ℕ) (row : List Place) → i < length old → now ≡ with_row old i row → i < length now
nexts-there old now i row lt is = omega (arith, lt, ap length is, length-set old i row)

pub nexts-more : (game : GameTree) (old now after : List (List Place)) (i k n : ℕ) (next : Option Move) → i < length old → now ≡ nexts_so game old i k → AreAlike (row_in old i) game n → k < n
    → next ≡ next_at game k → after ≡ with_row now i (set (row_in now i) k (next_put next (place_in (row_in now i) k))) → after ≡ nexts_so game old i (k + 1)
nexts-more game old now after i k n next lt is alike below then put =
    let row = row_in old i in
    let F = first_places game k in
    let within : k < length row = omega (arith, below, alike.within) in
    let d = place_in [] 0 in
    let split : F ++ drop k row ≡ F ++ place_in row k ∷ drop (k + 1) row = ap (λ (l : List Place). F ++ l) (drop_more row k d within) in
    let here : place_in (F ++ place_in row k ∷ drop (k + 1) row) k ≡ place_in row k =
    get_or-append_right F (place_in row k ∷ drop (k + 1) row) (length F) k d refl (omega (arith, length-first game k))
    ∙ ap (λ (m : ℕ). place_in (place_in row k ∷ drop (k + 1) row) m) (let none : k - length F ≡ 0 = omega (arith, length-first game k) in none) in
    let placed : next_put next (place_in row k) ≡ place_at game k = λ j. record { board = (alike.each k below).board_is j; ply = (alike.each k below).ply_is j; next = then j } in
    put ∙ ap (λ (l : List (List Place)). with_row l i (set (row_in l i) k (next_put next (place_in (row_in l i) k)))) is
    ∙ set-set old i (F ++ drop k row) (set (row_in (nexts_so game old i k) i) k (next_put next (place_in (row_in (nexts_so game old i k) i) k)))
    ∙ ap (λ (r : List Place). with_row old i (set r k (next_put next (place_in r k)))) (get_or-set_same old i (F ++ drop k row) [] lt ∙ split)
    ∙ ap (λ (p : Place). with_row old i (set (F ++ place_in row k ∷ drop (k + 1) row) k (next_put next p))) here
    ∙ ap (with_row old i) (ap (set (F ++ place_in row k ∷ drop (k + 1) row) k) placed ∙ set_at {A = Place} F (place_in row k) (drop (k + 1) row) (place_at game k) k (length-first game k)
    ∙ sym (append_assoc F (place_at game k ∷ []) (drop (k + 1) row)) ∙ ap (λ (l : List Place). l ++ drop (k + 1) row) (sym (place_next game k)))

-- The whole row is that of the game.
pub alike-front : (old put now : List (List Place)) (i n from more count depth : ℕ) (game : GameTree) → i < length old → count ≡ length (row_in old i) → AreAlike (row_in old i) game n → from ≡ n
    → from + more ≡ count → put ≡ with_row old i (row_in old i ++ drop n (places_of depth game)) → now ≡ with_row put i (take from (row_in put i) ++ drop (from + more) (row_in put i))
    → now ≡ with_row old i (take n (row_in old i) ++ drop n (places_of depth game))
alike-front old put now i n from more count depth game lt is alike same sum tail dropped =
    let row = row_in old i in
    let P = drop n (places_of depth game) in
    dropped ∙ ap (λ (l : List (List Place)). with_row l i (take from (row_in l i) ++ drop (from + more) (row_in l i))) tail
    ∙ set-set old i (row ++ P) (take from (row_in (with_row old i (row ++ P)) i) ++ drop (from + more) (row_in (with_row old i (row ++ P)) i))
    ∙ ap (λ (r : List Place). with_row old i (take from r ++ drop (from + more) r)) (get_or-set_same old i (row ++ P) [] lt)
    ∙ ap (λ (m : ℕ). with_row old i (take m (row ++ P) ++ drop (from + more) (row ++ P))) same
    ∙ ap (with_row old i)
    (λ j. take-append-le n row P alike.within j ++ drop_at row P (from + more) (let all : length row ≡ from + more = omega (arith, is, sum) in all) j)

pub alike-now : (old now : List (List Place)) (i n : ℕ) (game : GameTree) (tail : List Place) → i < length old → AreAlike (row_in old i) game n → now ≡ with_row old i (take n (row_in old i) ++ tail)
    → AreAlike (row_in now i) game n
alike-now old now i n game tail lt alike is =
    let row = row_in old i in
    let len : length (take n row) ≡ n = length-take-le n row alike.within in
    subst (λ (r : List Place). AreAlike r game n) (sym (ap (λ (l : List (List Place)). row_in l i) is ∙ get_or-set_same old i (take n row ++ tail) [] lt)) (record {
      within = omega (arith, len, length-append (take n row) tail);
      each = λ k below.
          subst (λ (p : Place). IsPlaceOn (place_at game k).board k p)
          (sym (get_or_append_left (take n row) tail (place_in [] 0) k (omega (arith, below, len)) ∙ get_or-take n row k (place_in [] 0) below)) (alike.each k below);
    })

pub whole-row : (old front now : List (List Place)) (i n depth : ℕ) (game : GameTree) → i < length old → AreAlike (row_in old i) game n → n ≤ length (places_of depth game)
    → front ≡ with_row old i (take n (row_in old i) ++ drop n (places_of depth game)) → now ≡ nexts_so game front i n → now ≡ set old i (places_of depth game)
whole-row old front now i n depth game lt alike few is nexts =
    let row = row_in old i in
    let P = places_of depth game in
    let len : length (take n row) ≡ n = length-take-le n row alike.within in
    nexts ∙ ap (λ (l : List (List Place)). with_row l i (first_places game n ++ drop n (row_in l i))) is
    ∙ set-set old i (take n row ++ drop n P) (first_places game n ++ drop n (row_in (with_row old i (take n row ++ drop n P)) i))
    ∙ ap (λ (r : List Place). with_row old i (first_places game n ++ drop n r)) (get_or-set_same old i (take n row ++ drop n P) [] lt)
    ∙ ap (with_row old i)
    (λ j. first-take game n depth few j ++ drop_at (take n row) (drop n P) n len j)
    ∙ ap (with_row old i) (take-append-drop n P)
  where
    first-take : (game : GameTree) (n depth : ℕ) → n ≤ length (places_of depth game) → first_places game n ≡ take n (places_of depth game)
    first-take game n depth few =
        sym (take-first game (min depth (plies_of game) + 1) n (omega (arith, few, length-places depth game)))

-- The same without the game.
pub at_most-none : (old : List (List Place)) (i : ℕ) → HasPutAtMost 0 old i old
at_most-none old i = record {
  places = [];
  row = record { few = omega arith; legal = All-nil IsLegalPlace };
  put = sym (ap (with_row old i) (append-nil (row_in old i)) ∙ set-get_or old i []);
}

pub at_most-more : (n : ℕ) (old now next : List (List Place)) (i : ℕ) (place : Place) → HasPutAtMost n old i now → i < length old → IsLegalPlace place
    → next ≡ with_row now i (row_in now i ++ place ∷ []) → HasPutAtMost (n + 1) old i next
at_most-more n old now next i place so lt legal more = record {
  places = so.places ++ place ∷ [];
  row = record { few = omega (arith, so.row.few, length_push so.places place); legal = All-push IsLegalPlace so.places place so.row.legal legal };
  put = row_more old now next i so.places place lt so.put more;
}

pub at_most-wider : (n m : ℕ) (old now : List (List Place)) (i : ℕ) → HasPutAtMost n old i now → n ≤ m → HasPutAtMost m old i now
at_most-wider n m old now i so le = record { places = so.places; row = record { few = omega (arith, so.row.few, le); legal = so.row.legal }; put = so.put }

-- What was put is taken out again.
pub taken_back : (old now new : List (List Place)) (i count : ℕ) → HasPut old i now → i < length old → count ≡ length (row_in old i)
    → new ≡ with_row now i (take count (row_in now i)) → new ≡ old
taken_back old now new i count put lt is taken =
    taken ∙ ap (λ (l : List (List Place)). with_row l i (take count (row_in l i))) put.put
    ∙ set-set old i (row_in old i ++ put.places) (take count (row_in (with_row old i (row_in old i ++ put.places)) i))
    ∙ ap (λ (r : List Place). with_row old i (take count r)) (get_or-set_same old i (row_in old i ++ put.places) [] lt)
    ∙ ap (with_row old i) (take_at (row_in old i) put.places count (sym is)) ∙ set-get_or old i []

-- The move of a line in memory.
pub next_in : (line : List Played) (k : ℕ) → slice_get (moves_of (line_of line)) k ≡ option_map (λ (p : Played). p.mv) (slice_get line k)
next_in [] k = refl
next_in (p ∷ line) zero = refl
next_in (p ∷ line) (suc k) = next_in line k

-- There is a move.
pub some_move : (next : Option Move) → is_none next ≡ false → (m : Move) × (next ≡ Some m)
some_move None fails = absurd (cc)
some_move (Some m) fails = (m, refl)

-- The next move of a legal game leads to its next position.
pub legal_next : (game : GameTree) (p : Setup) (ply : ℕ) (m : Move) → IsLegalGame game → p ≡ position_at game ply → next_at game ply ≡ Some m → Step p m (position_at game (ply + 1))
legal_next game p ply m legal at then =
    let step = IsLegalGame-next game legal ply (omega (arith, next_within game ply m then)) in
    let same : step.0 ≡ m = cc (step.1.0, then) in
    subst (λ (q : Setup). Step q m (position_at game (ply + 1))) (sym at) (subst (λ (n : Move). Step (position_at game ply) n (position_at game (ply + 1))) same step.1.1)

-- What a slice has at a place.
pub got_some : {T : Type 0} (xs line : List T) (i ply : ℕ) (x : T) → xs ≡ line → i ≡ ply → i < length xs → x ≡ get_or xs i x → slice_get line ply ≡ Some x
got_some xs line i ply x same at lt is = (λ j. slice_get (sym same j) (sym at j)) ∙ slice_get-get_or xs i x lt ∙ ap Some (sym is)

pub got_none : {T : Type 0} (xs line : List T) (i ply : ℕ) → xs ≡ line → i ≡ ply → length xs ≤ i → slice_get line ply ≡ None
got_none xs line i ply same at le = (λ j. slice_get (sym same j) (sym at j)) ∙ slice_get_past xs i le

-- The move after a place is legal there.
pub legal_place : (p q : Setup) (board : Packed) (ply : ℕ) (next : Option Move) → Sound p → board ≡ packed_of p.board p.side → ((m : Move) → next ≡ Some m → Step p m q)
    → IsLegalPlace (record { board = board; ply = ply; next = next })
legal_place p q board ply None sound is steps = tt
legal_place p q board ply (Some m) sound is steps = legal_on p board m sound is (q, steps m refl)

place_legal : (game : GameTree) → Sound game.start → IsLegalGame game → (k : ℕ) → IsLegalPlace (place_at game k)
place_legal game sound legal k = by (next_at game k) refl
  where
    by : (next : Option Move) → next_at game k ≡ next → IfSome next (IsLegalOn (place_at game k).board)
    by None is = tt
    by (Some m) is =
        legal_on (position_at game k) (place_at game k).board m (moves_at game k sound legal (omega (arith, next_within game k m is))).sound refl
        (position_at game (k + 1), legal_next game (position_at game k) k m legal refl is)

all_legal : (game : GameTree) → Sound game.start → IsLegalGame game → (plies : List ℕ) → All IsLegalPlace (map (place_at game) plies)
all_legal game sound legal [] = All-nil IsLegalPlace
all_legal game sound legal (k ∷ plies) = All-cons IsLegalPlace (place_at game k) (map (place_at game) plies) (place_legal game sound legal k) (all_legal game sound legal plies)

pub places_row : (depth : ℕ) (game : GameTree) → Sound game.start → IsLegalGame game → IsRow (depth + 1) (places_of depth game)
places_row depth game sound legal = record {
  few = places_few depth game;
  legal = all_legal game sound legal (range_with_len 0 (min depth (plies_of game) + 1));
}
