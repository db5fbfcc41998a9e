-- The hits of one game among those on a board.
use Rattle.std.proofs.Common.{◌≡◌, ◌≤◌, ◌<◌, ◌+◌, ◌-◌, ℕ, zero, suc, Bool, true, false, cond, List, [], ◌∷◌, ◌++◌, None, Some, Option, length, get_or, take, drop, refl, sym, ap, ◌∙◌, subst, arith, inl, inr}
use Rattle.std.specs.Prelude.{All, IfSome, option_map, slice_get}
use Rattle.std.specs.List.{find}
use Rattle.std.proofs.lemmas.Bool.{cases_lt}
use Rattle.std.proofs.lemmas.List.{append-nil, append_assoc, length-append, length-take-le, set-get_or, set_split}
use Rattle.std.proofs.lemmas.Option.{slice_get-get_or}
use Rattle.std.proofs.lemmas.List.Elements.{All-append, All-cons, All-head, All-nil, All-weaker}
use Rattle.cell_core.specs.declared.step.Move.{Move}
use Rattle.cell_core.specs.Packed.{Packed}
use Rattle.pos_index.specs.declared.hit.Hit.{Hit}
use Rattle.pos_index.specs.Keeping.{IsApart, IsGap}
use Rattle.pos_index.specs.Hits.{Place, first_on, hits_from, hits_in, places_in, ply_and_next, same_packed}

-- The hit of a place.
abbrev at_place : ℕ → Place → Hit
at_place game place = record { game = game; ply = place.ply; next = place.next }

-- ---- all games

row_own : (board : Packed) (game : ℕ) (row : List Place) → All (λ (h : Hit). h.game ≡ game) (hits_in board game row)
row_own board game [] = All-nil (λ (h : Hit). h.game ≡ game)
row_own board game (place ∷ row) = by (same_packed board place.board) (row_own board game row)
  where
    by : (t : Bool) → All (λ (h : Hit). h.game ≡ game) (hits_in board game row) → All (λ (h : Hit). h.game ≡ game) (cond t (at_place game place ∷ hits_in board game row) (hits_in board game row))
    by true rest = All-cons (λ (h : Hit). h.game ≡ game) (at_place game place) (hits_in board game row) refl rest
    by false rest = rest

from-append : (board : Packed) (game : ℕ) (xs ys : List (List Place)) → hits_from board game (xs ++ ys) ≡ hits_from board game xs ++ hits_from board (game + length xs) ys
from-append board game [] ys = ap (λ (n : ℕ). hits_from board n ys) (let same : game ≡ game + 0 = omega arith in same)
from-append board game (row ∷ xs) ys =
    ap (λ (l : List Hit). hits_in board game row ++ l) (from-append board (game + 1) xs ys)
    ∙ sym (append_assoc (hits_in board game row) (hits_from board (game + 1) xs) (hits_from board (game + 1 + length xs) ys))
    ∙ ap (λ (n : ℕ). hits_from board game (row ∷ xs) ++ hits_from board n ys) (let same : game + 1 + length xs ≡ game + length (row ∷ xs) = omega arith in same)

from-above : (board : Packed) (game : ℕ) (rows : List (List Place)) → All (λ (h : Hit). game ≤ h.game) (hits_from board game rows)
from-above board game [] = All-nil (λ (h : Hit). game ≤ h.game)
from-above board game (row ∷ rows) =
    All-append (λ (h : Hit). game ≤ h.game) (hits_in board game row) (hits_from board (game + 1) rows)
    (All-weaker (λ (h : Hit). h.game ≡ game) (λ (h : Hit). game ≤ h.game) (λ h same. omega (arith, same)) (hits_in board game row) (row_own board game row))
    (All-weaker (λ (h : Hit). game + 1 ≤ h.game) (λ (h : Hit). game ≤ h.game) (λ h le. omega (arith, le)) (hits_from board (game + 1) rows) (from-above board (game + 1) rows))

from-below : (board : Packed) (game : ℕ) (rows : List (List Place)) → All (λ (h : Hit). h.game < game + length rows) (hits_from board game rows)
from-below board game [] = All-nil (λ (h : Hit). h.game < game + 0)
from-below board game (row ∷ rows) =
    All-append (λ (h : Hit). h.game < game + length (row ∷ rows)) (hits_in board game row) (hits_from board (game + 1) rows)
    (All-weaker (λ (h : Hit). h.game ≡ game) (λ (h : Hit). h.game < game + length (row ∷ rows)) (λ h same. omega (arith, same)) (hits_in board game row) (row_own board game row))
    (All-weaker (λ (h : Hit). h.game < game + 1 + length rows) (λ (h : Hit). h.game < game + length (row ∷ rows)) (λ h lt. omega (arith, lt))
    (hits_from board (game + 1) rows) (from-below board (game + 1) rows))

-- ---- one game

own_apart : (board : Packed) (game : ℕ) (rows : List (List Place)) → game < length rows → IsApart (hits_from board 0 rows) game (hits_in board game (get_or rows game []))
own_apart board game rows lt =
    let row = get_or rows game [] in
    let count : length (take game rows) ≡ game = length-take-le game rows (omega (arith, lt)) in
    record {
      before = hits_from board 0 (take game rows);
      behind = hits_from board (game + 1) (drop (suc game) rows);
      is = ap (hits_from board 0) (sym (set-get_or rows game []) ∙ set_split rows game row lt) ∙ from-append board 0 (take game rows) (row ∷ drop (suc game) rows)
          ∙ ap (λ (n : ℕ). hits_from board 0 (take game rows) ++ hits_from board n (row ∷ drop (suc game) rows)) (let same : 0 + length (take game rows) ≡ game = omega (arith, count) in same);
      below = All-weaker (λ (h : Hit). h.game < 0 + length (take game rows)) (λ (h : Hit). h.game < game) (λ h less. omega (arith, less, count))
          (hits_from board 0 (take game rows)) (from-below board 0 (take game rows));
      above = All-weaker (λ (h : Hit). game + 1 ≤ h.game) (λ (h : Hit). game < h.game) (λ h le. omega (arith, le))
          (hits_from board (game + 1) (drop (suc game) rows)) (from-above board (game + 1) (drop (suc game) rows));
      here = row_own board game row;
    }

none_past : (rows : List (List Place)) (game : ℕ) → length rows ≤ game → get_or rows game [] ≡ []
none_past [] game past = refl
none_past (row ∷ rows) zero past = absurd (omega (arith, past))
none_past (row ∷ rows) (suc game) past = none_past rows game (omega (arith, past))

none_apart : (board : Packed) (game : ℕ) (rows : List (List Place)) → length rows ≤ game → IsApart (hits_from board 0 rows) game []
none_apart board game rows past = record {
  before = hits_from board 0 rows;
  behind = [];
  is = sym (append-nil (hits_from board 0 rows));
  below = All-weaker (λ (h : Hit). h.game < 0 + length rows) (λ (h : Hit). h.game < game) (λ h less. omega (arith, less, past)) (hits_from board 0 rows) (from-below board 0 rows);
  above = All-nil (λ (h : Hit). game < h.game);
  here = All-nil (λ (h : Hit). h.game ≡ game);
}

pub apart : (board : Packed) (game : ℕ) (rows : List (List Place)) → IsApart (hits_from board 0 rows) game (hits_in board game (places_in rows game))
apart board game rows = elim (cases_lt game (length rows)) [
  | inl lt ↦ own_apart board game rows lt
  | inr past ↦
      subst (λ (row : List Place). IsApart (hits_from board 0 rows) game (hits_in board game row)) (sym (none_past rows game past)) (none_apart board game rows past)
]

-- ---- the first of them

abbrev told_by : Hit → ℕ × Option Move
told_by hit = (hit.ply, hit.next)

head_is : (board : Packed) (game : ℕ) (row : List Place) → option_map told_by (slice_get (hits_in board game row) 0) ≡ first_on board row
head_is board game [] = refl
head_is board game (place ∷ row) = by (same_packed board place.board) (head_is board game row)
  where
    by : (t : Bool) → option_map told_by (slice_get (hits_in board game row) 0) ≡ first_on board row
        → option_map told_by (slice_get (cond t (at_place game place ∷ hits_in board game row) (hits_in board game row)) 0)
        ≡ option_map ply_and_next (cond t (Some place) (find (λ (p : Place). same_packed board p.board) row))
    by true rest = refl
    by false rest = rest

-- The hits of a game and those behind them are of no earlier game.
upwards : (own behind : List Hit) (game : ℕ) → All (λ (h : Hit). h.game ≡ game) own → All (λ (h : Hit). game < h.game) behind → All (λ (h : Hit). game ≤ h.game) (own ++ behind)
upwards own behind game here above =
    All-append (λ (h : Hit). game ≤ h.game) own behind
    (All-weaker (λ (h : Hit). h.game ≡ game) (λ (h : Hit). game ≤ h.game) (λ h same. omega (arith, same)) own here)
    (All-weaker (λ (h : Hit). game < h.game) (λ (h : Hit). game ≤ h.game) (λ h past. omega (arith, past)) behind above)

-- Where the hits of a game begin, or would.
abbrev pub BeginsAt : ℕ → ℕ → List Hit → Type 0
BeginsAt game at hits = (front back : List Hit) → hits ≡ front ++ back → All (λ (h : Hit). h.game < game) front → All (λ (h : Hit). game ≤ h.game) back → at ≡ length front

begin_is : (hits own : List Hit) (game at : ℕ) → (are : IsApart hits game own) → BeginsAt game at hits → at ≡ length are.before
begin_is hits own game at are begins =
    begins are.before (own ++ are.behind) are.is are.below (upwards own are.behind game are.here are.above)

get_past : (front rest : List Hit) → slice_get (front ++ rest) (length front) ≡ slice_get rest 0
get_past [] rest = refl
get_past (h ∷ front) rest = get_past front rest

-- What stands there.
there : (hits own : List Hit) (game at : ℕ) (hit : Hit) → (are : IsApart hits game own) → BeginsAt game at hits → at < length hits → hit ≡ get_or hits at hit
    → slice_get (own ++ are.behind) 0 ≡ Some hit
there hits own game at hit are begins within is =
    sym (get_past are.before (own ++ are.behind))
    ∙ (λ i. slice_get (sym are.is i) (sym (begin_is hits own game at are begins) i))
    ∙ (slice_get-get_or hits at hit within ∙ ap Some (sym is))

none_first : (own behind : List Hit) (game : ℕ) (hit : Hit) → slice_get (own ++ behind) 0 ≡ Some hit → (hit.game ≡ game → ⊥)
    → All (λ (h : Hit). h.game ≡ game) own → slice_get own 0 ≡ None
none_first [] behind game hit is other here = refl
none_first (h ∷ own) behind game hit is other here =
    let same : h ≡ hit = cc in
    absurd (other (subst (λ (k : Hit). k.game ≡ game) same (All-head (λ (k : Hit). k.game ≡ game) h own here)))

one_first : (own behind : List Hit) (game : ℕ) (hit : Hit) → slice_get (own ++ behind) 0 ≡ Some hit → hit.game ≡ game
    → All (λ (h : Hit). game < h.game) behind → slice_get own 0 ≡ Some hit
one_first [] [] game hit is same above = absurd (cc)
one_first [] (h ∷ behind) game hit is same above =
    let at : h ≡ hit = cc in
    let past : game < hit.game = subst (λ (k : Hit). game < k.game) at (All-head (λ (k : Hit). game < k.game) h behind above) in
    absurd (omega (arith, past, same))
one_first (h ∷ own) behind game hit is same above = is

none_left : (own rest : List Hit) → length (own ++ rest) ≡ 0 → slice_get own 0 ≡ None
none_left [] rest none = refl
none_left (h ∷ own) rest none = absurd (omega (arith, none))

-- None of a game stands there, if what stands first is of a later one.
none_own : (own behind : List Hit) (game : ℕ) → IfSome (slice_get (own ++ behind) 0) (λ (h : Hit). game < h.game) → All (λ (h : Hit). h.game ≡ game) own → slice_get own 0 ≡ None
none_own [] behind game past here = refl
none_own (h ∷ own) behind game past here =
    let same : h.game ≡ game = All-head (λ (k : Hit). k.game ≡ game) h own here in
    absurd (omega (arith, past, same))

module _ (board : Packed) (rows : List (List Place)) (game at : ℕ) (hits : List Hit) (begins : BeginsAt game at hits) (all : hits ≡ hits_from board 0 rows) where
  abbrev own : List Hit
  own = hits_in board game (places_in rows game)

  are : IsApart hits game own
  are = subst (λ (l : List Hit). IsApart l game own) (sym all) (apart board game rows)

  pub ends_there : at ≡ length hits → None ≡ first_on board (places_in rows game)
  ends_there end =
      ap (option_map told_by)
      (sym (none_left own are.behind
      (omega (arith, end, begin_is hits own game at are begins, ap length are.is, length-append are.before (own ++ are.behind)))))
      ∙ head_is board game (places_in rows game)

  pub other_there : (hit : Hit) → at < length hits → hit ≡ get_or hits at hit → (hit.game ≡ game → ⊥) → None ≡ first_on board (places_in rows game)
  other_there hit within is other =
      ap (option_map told_by) (sym (none_first own are.behind game hit (there hits own game at hit are begins within is) other are.here))
      ∙ head_is board game (places_in rows game)

  pub own_there : (hit : Hit) → at < length hits → hit ≡ get_or hits at hit → hit.game ≡ game → Some (hit.ply, hit.next) ≡ first_on board (places_in rows game)
  own_there hit within is same =
      ap (option_map told_by) (sym (one_first own are.behind game hit (there hits own game at hit are begins within is) same are.above))
      ∙ head_is board game (places_in rows game)

-- A game of a gap has none.
pub gap_there : (board : Packed) (rows : List (List Place)) (game from to : ℕ) (hits : List Hit) → IsGap hits from to → from ≤ game → game < to → hits ≡ hits_from board 0 rows
    → None ≡ first_on board (places_in rows game)
gap_there board rows game from to hits gap ge lt all =
    let own : List Hit = hits_in board game (places_in rows game) in
    let are : IsApart hits game own = subst (λ (l : List Hit). IsApart l game own) (sym all) (apart board game rows) in
    ap (option_map told_by)
    (sym (none_own own are.behind game (gap game ge lt are.before (own ++ are.behind) are.is are.below (upwards own are.behind game are.here are.above)) are.here))
    ∙ head_is board game (places_in rows game)
