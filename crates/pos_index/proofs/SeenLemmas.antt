-- The spots that the boards of a game and the hits on them tell.
use Rattle.std.proofs.Common.{◌≡◌, ◌≤◌, ◌<◌, ◌+◌, ◌-◌, ℕ, suc, Bool, true, false, cond, eqb, List, [], ◌∷◌, ◌++◌, length, get_or, map, min, take, take-append-drop, drop, set, Option, refl, sym, ap, ◌∙◌, subst, arith, inl, inr, ◌⊎◌}
use Rattle.std.specs.Prelude.{All}
use Rattle.std.proofs.lemmas.Bool.{cases_Bool}
use Rattle.std.proofs.lemmas.List.{append-nil, append_assoc, drop-drop, drop-map, get_or-append_right, get_or-map, length-append, length-map, length_push, map-append, map-set, map_push, set-get_or, set_split, take-map, take_min, take_more}
use Rattle.std.proofs.lemmas.List.Elements.{All-cons, All-head, All-nil, All-tail, All-weaker}
use Rattle.cell_core.specs.declared.step.Move.{Move}
use Rattle.game_filter.specs.Renumbering.{Rises, renumbered}
use Rattle.pos_index.specs.declared.hit.Hit.{Hit}
use Rattle.pos_index.specs.declared.spot.Spot.{Spot}
use Rattle.pos_index.specs.Keeping.{AreListed, IsApart, Listed, board_of, boards_of, hit_in, hits_at, moved, next_set, own_hits, row_in, row_seen, rows_seen, spot_in, spot_of, times, with_row}
use Rattle.pos_index.proofs.ListedLemmas.{list_is, listed_board, listed_moved, listed_pop, listed_put, listed_row, listed_set, lists_below, popped, row_known, with_spot}
use Rattle.pos_index.proofs.PlaceLemmas.{map-renumbered}
use Rattle.pos_index.proofs.SpotLemmas.{around_own, before, before-below, behind, behind-above, hit_of, hits_at-own}

-- ---- the hits of one game

own-append : (game : ℕ) (xs ys : List Hit) → own_hits game (xs ++ ys) ≡ own_hits game xs ++ own_hits game ys
own-append game [] ys = refl
own-append game (hit ∷ xs) ys = by (eqb game hit.game) (own-append game xs ys)
  where
    by : (t : Bool) → own_hits game (xs ++ ys) ≡ own_hits game xs ++ own_hits game ys
        → cond t (hit ∷ own_hits game (xs ++ ys)) (own_hits game (xs ++ ys)) ≡ cond t (hit ∷ own_hits game xs) (own_hits game xs) ++ own_hits game ys
    by true rest = ap (λ (l : List Hit). hit ∷ l) rest
    by false rest = rest

own-all : (game : ℕ) (xs : List Hit) → All (λ (h : Hit). h.game ≡ game) xs → own_hits game xs ≡ xs
own-all game [] all = refl
own-all game (hit ∷ xs) all =
    let here = All-head (λ (h : Hit). h.game ≡ game) hit xs all in
    ap (λ (t : Bool). cond t (hit ∷ own_hits game xs) (own_hits game xs)) (let is : eqb game hit.game ≡ true = grind (arith, here) in is)
    ∙ ap (λ (l : List Hit). hit ∷ l) (own-all game xs (All-tail (λ (h : Hit). h.game ≡ game) hit xs all))

own-none : (game : ℕ) (xs : List Hit) → All (λ (h : Hit). game ≡ h.game → ⊥) xs → own_hits game xs ≡ []
own-none game [] none = refl
own-none game (hit ∷ xs) none =
    let other = All-head (λ (h : Hit). game ≡ h.game → ⊥) hit xs none in
    ap (λ (t : Bool). cond t (hit ∷ own_hits game xs) (own_hits game xs)) (fails other (cases_Bool (eqb game hit.game)))
    ∙ own-none game xs (All-tail (λ (h : Hit). game ≡ h.game → ⊥) hit xs none)
  where
    fails : (game ≡ hit.game → ⊥) → (eqb game hit.game ≡ true) ⊎ (eqb game hit.game ≡ false) → eqb game hit.game ≡ false
    fails other (inl same) = absurd (other (grind (arith, same)))
    fails other (inr is) = is

-- Among the hits on a board they are those of its spots, and stand apart.
own_is : (lists : List (List Hit)) (rows : List (List Spot)) (i board : ℕ) → AreListed lists rows → i < length rows → board < length lists
    → own_hits i (get_or lists board []) ≡ hits_at board i (row_in rows i)
own_is lists rows i board all lt within =
    let row = hits_at board i (row_in rows i) in
    let A = before board i rows in
    let B = behind board i rows in
    ap (own_hits i) (list_is lists rows board [] all within ∙ around_own board i rows lt) ∙ own-append i A (row ++ B)
    ∙ (λ j. own-none i A (All-weaker (λ (h : Hit). h.game < i) (λ (h : Hit). i ≡ h.game → ⊥) (λ h less same. omega (arith, less, same)) A (before-below board i rows lt)) j ++ own_hits i (row ++ B))
    ∙ own-append i row B
    ∙ (λ j. own-all i row (hits_at-own board i (row_in rows i)) j
    ++ own-none i B (All-weaker (λ (h : Hit). i < h.game) (λ (h : Hit). i ≡ h.game → ⊥) (λ h more same. omega (arith, more, same)) B (behind-above board i rows)) j)
    ∙ append-nil row

pub own_apart : (lists : List (List Hit)) (rows : List (List Spot)) (i board : ℕ) → AreListed lists rows → i < length rows → board < length lists
    → IsApart (get_or lists board []) i (own_hits i (get_or lists board []))
own_apart lists rows i board all lt within =
    subst (IsApart (get_or lists board []) i) (sym (own_is lists rows i board all lt within)) (record {
      before = before board i rows;
      behind = behind board i rows;
      is = list_is lists rows board [] all within ∙ around_own board i rows lt;
      below = before-below board i rows lt;
      above = behind-above board i rows;
      here = hits_at-own board i (row_in rows i);
    })

-- ---- how often a board stands among others

pub times_is : (board game : ℕ) (spots : List Spot) → times board (map board_of spots) ≡ length (hits_at board game spots)
times_is board game [] = refl
times_is board game (spot ∷ spots) = by (eqb board spot.board) (times_is board game spots)
  where
    by : (t : Bool) → times board (map board_of spots) ≡ length (hits_at board game spots)
        → cond t (times board (map board_of spots) + 1) (times board (map board_of spots)) ≡ length (cond t (hit_of game spot ∷ hits_at board game spots) (hits_at board game spots))
    by true rest = omega (arith, rest)
    by false rest = rest

times-push : (board other : ℕ) (boards : List ℕ) → times board (boards ++ other ∷ []) ≡ times board boards + times board (other ∷ [])
times-push board other [] = let same : times board (other ∷ []) ≡ 0 + times board (other ∷ []) = omega arith in same
times-push board other (first ∷ boards) = by (eqb board first) (times-push board other boards)
  where
    by : (t : Bool) → times board (boards ++ other ∷ []) ≡ times board boards + times board (other ∷ [])
        → cond t (times board (boards ++ other ∷ []) + 1) (times board (boards ++ other ∷ [])) ≡ cond t (times board boards + 1) (times board boards) + times board (other ∷ [])
    by true rest = omega (arith, rest)
    by false rest = rest

pub times_here : (board k found : ℕ) (boards : List ℕ) (other : ℕ) → k < length boards → other ≡ get_or boards k other → board ≡ other
    → found ≡ times board (take k boards) → found + 1 ≡ times board (take (k + 1) boards)
times_here board k found boards other lt is same so =
    let one : times board (other ∷ []) ≡ 1 = ap (λ (t : Bool). cond t 1 0) (let e : eqb board other ≡ true = grind (arith, same) in e) in
    omega (arith, so, one, times-push board other (take k boards), ap (times board) (take_more boards k other lt ∙ ap (λ (b : ℕ). take k boards ++ b ∷ []) (sym is)))

pub times_there : (board k found : ℕ) (boards : List ℕ) (other : ℕ) → k < length boards → other ≡ get_or boards k other → (board ≡ other → ⊥)
    → found ≡ times board (take k boards) → found ≡ times board (take (k + 1) boards)
times_there board k found boards other lt is differs so =
    let none : times board (other ∷ []) ≡ 0 = ap (λ (t : Bool). cond t 1 0) (fails (cases_Bool (eqb board other))) in
    omega (arith, so, none, times-push board other (take k boards), ap (times board) (take_more boards k other lt ∙ ap (λ (b : ℕ). take k boards ++ b ∷ []) (sym is)))
  where
    fails : (eqb board other ≡ true) ⊎ (eqb board other ≡ false) → eqb board other ≡ false
    fails (inl same) = absurd (differs (grind (arith, same)))
    fails (inr e) = e

-- ---- the spots are seen

hit_there : (lists : List (List Hit)) (rows : List (List Spot)) (i : ℕ) (front : List Spot) (spot : Spot) (rest : List Spot) → AreListed lists rows → i < length rows
    → row_in rows i ≡ front ++ spot ∷ rest → spot.board < length lists
    → hit_in (own_hits i (get_or lists spot.board [])) (times spot.board (map board_of front)) ≡ hit_of i spot
hit_there lists rows i front spot rest all lt row within =
    let board = spot.board in
    let ahead = hits_at board i front in
    let others = hits_at board i rest in
    (λ j. hit_in ((own_is lists rows i board all lt within ∙ ap (hits_at board i) row ∙ with_spot board i front rest spot refl) j) (times_is board i front j))
    ∙ get_or-append_right ahead (hit_of i spot ∷ others) (length ahead) (length ahead) (hit_in [] 0) refl (let same : length ahead ≤ length ahead = omega arith in same)
    ∙ ap (λ (k : ℕ). hit_in (hit_of i spot ∷ others) k) (let none : length ahead - length ahead ≡ 0 = omega arith in none)

pub row_is_seen : (lists : List (List Hit)) (rows : List (List Spot)) (i : ℕ) (front rest : List Spot) → AreListed lists rows → i < length rows
    → row_in rows i ≡ front ++ rest → All (λ (s : Spot). s.board < length lists) rest → row_seen lists i (map board_of front) (map board_of rest) ≡ rest
row_is_seen lists rows i front [] all lt row known = refl
row_is_seen lists rows i front (spot ∷ rest) all lt row known =
    let board = spot.board in
    let within = All-head (λ (s : Spot). s.board < length lists) spot rest known in
    let next : row_in rows i ≡ (front ++ spot ∷ []) ++ rest = row ∙ sym (append_assoc front (spot ∷ []) rest) in
    (λ j. spot_of board (hit_there lists rows i front spot rest all lt row within j)
    ∷ (ap (λ (l : List ℕ). row_seen lists i l (map board_of rest)) (sym (map_push board_of front spot))
    ∙ row_is_seen lists rows i (front ++ spot ∷ []) rest all lt next (All-tail (λ (s : Spot). s.board < length lists) spot rest known)) j)

rows_are_seen : (lists : List (List Hit)) (rows front rest : List (List Spot)) → AreListed lists rows → rows ≡ front ++ rest → rows_seen lists (length front) (boards_of rest) ≡ rest
rows_are_seen lists rows front [] all is = refl
rows_are_seen lists rows front (row ∷ rest) all is =
    let lt : length front < length rows = omega (arith, ap length is, length-append front (row ∷ rest)) in
    let at : row_in rows (length front) ≡ row =
    ap (λ (l : List (List Spot)). row_in l (length front)) is
    ∙ get_or-append_right front (row ∷ rest) (length front) (length front) [] refl (let same : length front ≤ length front = omega arith in same)
    ∙ ap (λ (k : ℕ). row_in (row ∷ rest) k) (let none : length front - length front ≡ 0 = omega arith in none) in
    let known : All (λ (s : Spot). s.board < length lists) row = subst (All (λ (s : Spot). s.board < length lists)) at (all.known (length front) [] lt) in
    (λ j. row_is_seen lists rows (length front) [] row all lt at known j
    ∷ (ap (λ (n : ℕ). rows_seen lists n (boards_of rest)) (sym (length_push front row))
    ∙ rows_are_seen lists rows (front ++ row ∷ []) rest all (is ∙ sym (append_assoc front (row ∷ []) rest))) j)

-- The boards of the rows tell the rows.
pub seen : (lists : List (List Hit)) (rows : List (List Spot)) (boards : List (List ℕ)) → AreListed lists rows → boards ≡ boards_of rows → rows_seen lists 0 boards ≡ rows
seen lists rows boards all is = ap (rows_seen lists 0) is ∙ rows_are_seen lists rows [] rows all refl

listed_seen : (lists : List (List Hit)) (rows : List (List Spot)) (boards : List (List ℕ)) → AreListed lists rows → boards ≡ boards_of rows → AreListed lists (rows_seen lists 0 boards)
listed_seen lists rows boards all is = subst (AreListed lists) (sym (seen lists rows boards all is)) all

-- So the lists and boards stand for rows.
pub record AreSeen (lists : List (List Hit)) (boards : List (List ℕ)) (rows : List (List Spot)) : Type 0 where
  pub listed : AreListed lists (rows_seen lists 0 boards)
  pub are : rows_seen lists 0 boards ≡ rows

pub are_seen : (lists : List (List Hit)) (rows : List (List Spot)) (boards : List (List ℕ)) → AreListed lists rows → boards ≡ boards_of rows → AreSeen lists boards rows
are_seen lists rows boards all is = record { listed = listed_seen lists rows boards all is; are = seen lists rows boards all is }

boards_of_row : (lists : List (List Hit)) (game : ℕ) (before boards : List ℕ) → map board_of (row_seen lists game before boards) ≡ boards
boards_of_row lists game before [] = refl
boards_of_row lists game before (board ∷ boards) = ap (λ (l : List ℕ). board ∷ l) (boards_of_row lists game (before ++ board ∷ []) boards)

pub boards_seen : (lists : List (List Hit)) (game : ℕ) (rows : List (List ℕ)) → boards_of (rows_seen lists game rows) ≡ rows
boards_seen lists game [] = refl
boards_seen lists game (row ∷ rows) = (λ j. boards_of_row lists game [] row j ∷ boards_seen lists (game + 1) rows j)

pub length-seen : (lists : List (List Hit)) (game : ℕ) (rows : List (List ℕ)) → length (rows_seen lists game rows) ≡ length rows
length-seen lists game [] = refl
length-seen lists game (row ∷ rows) = ap suc (length-seen lists (game + 1) rows)

known_boards : (boards : ℕ) (spots : List Spot) → All (λ (s : Spot). s.board < boards) spots → All (λ (board : ℕ). board < boards) (map board_of spots)
known_boards boards [] known = All-nil (λ (board : ℕ). board < boards)
known_boards boards (spot ∷ spots) known =
    All-cons (λ (board : ℕ). board < boards) spot.board (map board_of spots) (All-head (λ (s : Spot). s.board < boards) spot spots known)
    (known_boards boards spots (All-tail (λ (s : Spot). s.board < boards) spot spots known))

-- As contracts see them.
abbrev seen_as : ℕ → List (List Spot) → Listed
seen_as boards rows = record { boards = boards; rows = rows }

pub with_rows : (boards : ℕ) (seen rows : List (List Spot)) (old : Listed) → seen ≡ rows → boards ≡ old.boards → seen_as boards seen ≡ seen_as old.boards rows
with_rows boards seen rows old are same = λ j. seen_as (same j) (are j)

-- ---- one game more or less, another board

module _ (lists : List (List Hit)) (boards : List (List ℕ)) (all : AreListed lists (rows_seen lists 0 boards)) where
  abbrev rows : List (List Spot)
  rows = rows_seen lists 0 boards

  boards_are : boards_of rows ≡ boards
  boards_are = boards_seen lists 0 boards

  pub board_kept : AreSeen (lists ++ [] ∷ []) boards rows
  board_kept = are_seen (lists ++ [] ∷ []) rows boards (listed_board lists rows all) (sym boards_are)

  pub row_kept : AreSeen lists (boards ++ [] ∷ []) (rows ++ [] ∷ [])
  row_kept =
      are_seen lists (rows ++ [] ∷ []) (boards ++ [] ∷ []) (listed_row lists rows all)
      (ap (λ (l : List (List ℕ)). l ++ [] ∷ []) (sym boards_are) ∙ sym (map_push (map board_of) rows []))

  pub pop_kept : (front : List (List Spot)) (after : List (List ℕ)) → rows ≡ front ++ [] ∷ [] → after ≡ take (length boards - 1) boards → AreSeen lists after front
  pop_kept front after is popped_is =
      are_seen lists front after (listed_pop lists front (subst (AreListed lists) is all))
      (popped boards after (boards_of front) (sym boards_are ∙ ap boards_of is ∙ map_push (map board_of) front []) popped_is)

  pub moved_kept : (to : List (Option ℕ)) (kept : ℕ) → Rises 0 to kept → length to ≡ length boards → AreSeen (map (moved to) lists) (renumbered to boards) (renumbered to rows)
  moved_kept to kept rises same =
      are_seen (map (moved to) lists) (renumbered to rows) (renumbered to boards)
      (listed_moved lists rows to kept all rises (same ∙ sym (length-seen lists 0 boards)))
      (ap (renumbered to) (sym boards_are) ∙ sym (map-renumbered (map board_of) to rows))

  pub games_below : All (All (λ (h : Hit). h.game < length boards)) lists
  games_below = subst (λ (n : ℕ). All (All (λ (h : Hit). h.game < n)) lists) (length-seen lists 0 boards) (lists_below lists rows all)

  -- ---- one game

  module _ (i : ℕ) (lt : i < length boards) where
    abbrev own : List Spot
    own = row_in rows i

    abbrev on : List ℕ
    on = get_or boards i []

    there : i < length rows
    there = omega (arith, lt, length-seen lists 0 boards)

    pub own_boards : map board_of own ≡ on
    own_boards = sym (get_or-map (map board_of) rows i [] [] there) ∙ ap (λ (l : List (List ℕ)). get_or l i []) boards_are

    pub own_length : length own ≡ length on
    own_length = sym (length-map own board_of) ∙ ap length own_boards

    set_boards : (row : List Spot) → boards_of (with_row rows i row) ≡ set boards i (map board_of row)
    set_boards row = map-set (map board_of) rows i row ∙ ap (λ (l : List (List ℕ)). set l i (map board_of row)) boards_are

    pub all_known : All (λ (board : ℕ). board < length lists) on
    all_known = subst (All (λ (board : ℕ). board < length lists)) own_boards (known_boards (length lists) own (row_known (length lists) i rows all.known there))

    pub put_kept : (spot : Spot) (row : List ℕ) (list : List Hit) → spot.board < length lists → row ≡ on ++ spot.board ∷ []
        → ((front back : List Hit) → get_or lists spot.board [] ≡ front ++ back → All (λ (h : Hit). h.game ≤ i) front → All (λ (h : Hit). i < h.game) back → list ≡ front ++ hit_of i spot ∷ back)
        → AreSeen (set lists spot.board list) (set boards i row) (with_row rows i (own ++ spot ∷ []))
    put_kept spot row list within is put =
        are_seen (set lists spot.board list) (with_row rows i (own ++ spot ∷ [])) (set boards i row)
        (listed_put lists rows i spot.board spot (own ++ spot ∷ []) list all there refl within refl put)
        (ap (set boards i) (is ∙ ap (λ (l : List ℕ). l ++ spot.board ∷ []) (sym own_boards) ∙ sym (map_push board_of own spot)) ∙ sym (set_boards (own ++ spot ∷ [])))

    pub middle_kept : (from count : ℕ) (front middle row : List ℕ) (after : List (List Hit)) → front ≡ take from on → middle ≡ take count (drop from on)
        → ((rows : List (List Spot)) (before spots behind : List Spot) → i < length rows → row_in rows i ≡ before ++ (spots ++ behind) → front ≡ map board_of before → middle ≡ map board_of spots
        → AreListed lists rows → AreListed after (with_row rows i (before ++ behind)))
        → row ≡ take from on ++ drop (from + count) on → AreSeen after (set boards i row) (with_row rows i (take from own ++ drop (from + count) own))
    middle_kept from count front middle row after front_is middle_is taken is =
        let behind = drop (from + count) own in
        let split : own ≡ take from own ++ (take count (drop from own) ++ behind) =
        sym (take-append-drop from own)
        ∙ ap (λ (l : List Spot). take from own ++ l) (sym (take-append-drop count (drop from own)) ∙ ap (λ (l : List Spot). take count (drop from own) ++ l) (drop-drop count from own)) in
        are_seen after (with_row rows i (take from own ++ behind)) (set boards i row)
        (taken rows (take from own) (take count (drop from own)) behind there split
        (front_is ∙ ap (take from) (sym own_boards) ∙ take-map board_of from own)
        (middle_is ∙ ap (λ (l : List ℕ). take count (drop from l)) (sym own_boards) ∙ ap (take count) (drop-map board_of from own) ∙ take-map board_of count (drop from own)) all)
        (ap (set boards i) (is ∙ (λ j. take from (sym own_boards j) ++ drop (from + count) (sym own_boards j))
        ∙ (λ j. take-map board_of from own j ++ drop-map board_of (from + count) own j) ∙ sym (map-append board_of (take from own) behind))
        ∙ sym (set_boards (take from own ++ behind)))

    pub lasts_kept : (count : ℕ) (lasts row : List ℕ) (after : List (List Hit)) → lasts ≡ drop count on
        → ((rows : List (List Spot)) (front spots : List Spot) → i < length rows → row_in rows i ≡ front ++ spots → lasts ≡ map board_of spots → AreListed lists rows
        → AreListed after (with_row rows i front))
        → row ≡ take count on → AreSeen after (set boards i row) (with_row rows i (take count own))
    lasts_kept count lasts row after lasts_is taken is =
        are_seen after (with_row rows i (take count own)) (set boards i row)
        (taken rows (take count own) (drop count own) there (sym (take-append-drop count own)) (lasts_is ∙ ap (drop count) (sym own_boards) ∙ drop-map board_of count own) all)
        (ap (set boards i) (is ∙ ap (take count) (sym own_boards) ∙ take-map board_of count own) ∙ sym (set_boards (take count own)))

    -- ---- one spot

    module _ (k : ℕ) (within : k < length on) where
      abbrev spot : Spot
      spot = spot_in own k

      inside : k < length own
      inside = omega (arith, within, own_length)

      pub spot_board : (d : ℕ) → get_or on k d ≡ spot.board
      spot_board d = ap (λ (l : List ℕ). get_or l k d) (sym own_boards) ∙ get_or-map board_of own k (spot_in [] 0) d inside

      pub spot_known : spot.board < length lists
      spot_known = row_known (length lists) i rows all.known there k (spot_in [] 0) inside

      whole_row : own ≡ take k own ++ spot ∷ drop (suc k) own
      whole_row = sym (set-get_or own k (spot_in [] 0)) ∙ set_split own k spot inside

      pub spot_times : times spot.board (take k on) ≡ length (hits_at spot.board i (take k own))
      spot_times = ap (λ (l : List ℕ). times spot.board (take k l)) (sym own_boards) ∙ ap (times spot.board) (take-map board_of k own) ∙ times_is spot.board i (take k own)

      -- The hit of the spot is among those of the game on its board.
      pub spot_hit : hit_in (own_hits i (get_or lists spot.board [])) (times spot.board (take k on)) ≡ hit_of i spot
      spot_hit =
          ap (λ (l : List ℕ). hit_in (own_hits i (get_or lists spot.board [])) (times spot.board l)) (ap (take k) (sym own_boards) ∙ take-map board_of k own)
          ∙ hit_there lists rows i (take k own) spot (drop (suc k) own) all there whole_row spot_known

      pub spot_rank : times spot.board (take k on) < length (own_hits i (get_or lists spot.board []))
      spot_rank =
          let board = spot.board in
          let hits : own_hits i (get_or lists board []) ≡ hits_at board i (take k own) ++ hit_of i spot ∷ hits_at board i (drop (suc k) own) =
          own_is lists rows i board all there spot_known ∙ ap (hits_at board i) whole_row ∙ with_spot board i (take k own) (drop (suc k) own) spot refl in
          omega (arith, spot_times, ap length hits, length-append (hits_at board i (take k own)) (hit_of i spot ∷ hits_at board i (drop (suc k) own)))

      pub spot_apart : IsApart (get_or lists spot.board []) i (own_hits i (get_or lists spot.board []))
      spot_apart = own_apart lists rows i spot.board all there spot_known

      pub next_kept : (next : Option Move) (list : List Hit)
          → ((front others back : List Hit) (hit : Hit) → get_or lists spot.board [] ≡ front ++ (others ++ hit ∷ back) → All (λ (h : Hit). h.game < i) front → All (λ (h : Hit). i ≤ h.game) (others ++ hit ∷ back)
          → times spot.board (take k on) ≡ length others → list ≡ front ++ (others ++ record hit { next = next } ∷ back))
          → AreSeen (set lists spot.board list) boards (with_row rows i (set own k (next_set next spot)))
      next_kept next list put =
          are_seen (set lists spot.board list) (with_row rows i (set own k (next_set next spot))) boards
          (listed_set lists rows i k spot.board (times spot.board (take k on)) own (set own k (next_set next spot)) next list all there refl inside refl spot_times put refl)
          (sym (set_boards (set own k (next_set next spot))
          ∙ ap (set boards i) (map-set board_of own k (next_set next spot)
          ∙ (λ j. set (own_boards j) k (sym (spot_board 0) j)) ∙ set-get_or on k 0)
          ∙ set-get_or boards i []))

pub pushed_board : (lists after : List (List Hit)) (boards : List (List ℕ)) (old : Listed) → AreListed lists (rows_seen lists 0 boards) → after ≡ lists ++ [] ∷ []
    → seen_as (length lists) (rows_seen lists 0 boards) ≡ old → seen_as (length after) (rows_seen after 0 boards) ≡ seen_as (old.boards + 1) old.rows
pushed_board lists after boards old all is view =
    (λ j. seen_as (length (is j)) (rows_seen (is j) 0 boards))
    ∙ (λ j. seen_as (length_push {X = List Hit} lists [] j) ((board_kept lists boards all).are j)) ∙ ap (λ (l : Listed). seen_as (l.boards + 1) l.rows) view

pub pushed_row : (lists : List (List Hit)) (boards after : List (List ℕ)) (old : Listed) → AreListed lists (rows_seen lists 0 boards) → after ≡ boards ++ [] ∷ []
    → seen_as (length lists) (rows_seen lists 0 boards) ≡ old → seen_as (length lists) (rows_seen lists 0 after) ≡ seen_as old.boards (old.rows ++ [] ∷ [])
pushed_row lists boards after old all is view =
    ap (λ (l : List (List ℕ)). seen_as (length lists) (rows_seen lists 0 l)) is
    ∙ ap (seen_as (length lists)) (row_kept lists boards all).are ∙ ap (λ (l : Listed). seen_as l.boards (l.rows ++ [] ∷ [])) view

pub taken_few : {T : Type 0} (count kept : ℕ) (xs : List T) → kept ≡ min count (length xs) → take kept xs ≡ take count xs
taken_few count kept xs is = ap (λ (n : ℕ). take n xs) is ∙ take_min count xs

-- What contracts say of the rows, said of the boards.
module _ (lists : List (List Hit)) (boards : List (List ℕ)) (old : Listed) (all : AreListed lists (rows_seen lists 0 boards)) (view : seen_as (length lists) (rows_seen lists 0 boards) ≡ old)
    (i : ℕ) (lt : i < length old.rows) where
  pub game_there : i < length boards
  game_there = omega (arith, lt, ap (λ (l : Listed). length l.rows) view, length-seen lists 0 boards)

  pub row_length : length (row_in old.rows i) ≡ length (get_or boards i [])
  row_length = ap (λ (l : Listed). length (row_in l.rows i)) (sym view) ∙ own_length lists boards all i game_there
