-- What a change of one game leaves of the hits on all boards.
use Rattle.std.proofs.Common.{◌≡◌, ◌≤◌, ◌<◌, ◌+◌, ◌-◌, ℕ, suc, List, [], ◌∷◌, ◌++◌, None, Some, Option, length, get_or, set, map, take, drop, refl, sym, ap, ◌∙◌, subst, arith, inl, inr}
use Rattle.std.specs.Prelude.{All}
use Rattle.std.proofs.lemmas.Bool.{cases_eq, cases_lt}
use Rattle.std.proofs.lemmas.Option.{get_or_from_slice_get, slice_get-get_or}
use Rattle.std.proofs.lemmas.List.{append-nil, append_assoc, get_or-map, get_or-set_other, get_or-set_same, get_or_append_left, get_or_push, length-map, drop_more, length-set, length_push, set-get_or, set-set, set_split, take_at, take_more}
use Rattle.std.proofs.lemmas.List.Elements.{All-append, All-cons, All-get_or, All-nil, All-push, All-set, All-tail, All-head, All-weaker}
use Rattle.game_filter.specs.Renumbering.{Rises, renumbered}
use Rattle.cell_core.specs.declared.step.Move.{Move}
use Rattle.pos_index.specs.declared.hit.Hit.{Hit}
use Rattle.pos_index.specs.declared.spot.Spot.{Spot}
use Rattle.pos_index.specs.Keeping.{AreListed, AreOn, hits_at, hits_by, moved, next_set, row_in, spot_in, with_row}
use Rattle.pos_index.proofs.SpotLemmas.{around, around_own, before, before-below, behind, behind-above, hit_of, hits_at-append, hits_at-here, hits_at-own, hits_at-there, hits_by-append, hits_by-below, moved_rows, none_by}

-- The list of a board.
pub list_is : (lists : List (List Hit)) (rows : List (List Spot)) (board : ℕ) (d : List Hit) → AreListed lists rows → board < length lists → get_or lists board d ≡ hits_by board 0 rows
list_is lists rows board d all lt = get_or_from_slice_get lists board (hits_by board 0 rows) d (all.each board lt)

-- As many boards and rows as are given.
listed : (lists : List (List Hit)) (rows : List (List Spot)) → ((board : ℕ) → board < length lists → get_or lists board [] ≡ hits_by board 0 rows) → AreOn (length lists) rows → AreListed lists rows
listed lists rows each known = record { each = λ board lt. slice_get-get_or lists board [] lt ∙ ap Some (each board lt); known = known }

on_more : (boards : ℕ) (rows : List (List Spot)) → AreOn boards rows → AreOn (boards + 1) rows
on_more boards rows on =
    All-weaker (All (λ (s : Spot). s.board < boards)) (All (λ (s : Spot). s.board < boards + 1))
    (λ row. All-weaker (λ (s : Spot). s.board < boards) (λ (s : Spot). s.board < boards + 1) (λ s lt. omega (arith, lt)) row) rows on

-- One board more.
pub listed_board : (lists : List (List Hit)) (rows : List (List Spot)) → AreListed lists rows → AreListed (lists ++ [] ∷ []) rows
listed_board lists rows all =
    listed (lists ++ [] ∷ []) rows
    (λ board lt. elim (cases_lt board (length lists)) [
      | inl old ↦ get_or_append_left lists ([] ∷ []) [] board old ∙ list_is lists rows board [] all old
      | inr past ↦
          get_or_push lists [] [] board (omega (arith, past, lt, length_push {X = List Hit} lists [])) ∙ sym (none_by (length lists) board 0 rows past all.known)
    ])
    (subst (λ (n : ℕ). AreOn n rows) (sym (length_push {X = List Hit} lists [])) (on_more (length lists) rows all.known))

-- One game more, without spots; and the same game gone.
no_hits : (board : ℕ) (rows : List (List Spot)) → hits_by board 0 (rows ++ [] ∷ []) ≡ hits_by board 0 rows
no_hits board rows = hits_by-append board 0 rows ([] ∷ []) ∙ append-nil (hits_by board 0 rows)

pub listed_row : (lists : List (List Hit)) (rows : List (List Spot)) → AreListed lists rows → AreListed lists (rows ++ [] ∷ [])
listed_row lists rows all =
    listed lists (rows ++ [] ∷ []) (λ board lt. list_is lists rows board [] all lt ∙ sym (no_hits board rows))
    (All-push (All (λ (s : Spot). s.board < length lists)) rows [] all.known (All-nil (λ (s : Spot). s.board < length lists)))

pub on_front : (boards : ℕ) (rows : List (List Spot)) → AreOn boards (rows ++ [] ∷ []) → AreOn boards rows
on_front boards [] on = All-nil (All (λ (s : Spot). s.board < boards))
on_front boards (row ∷ rows) on =
    All-cons (All (λ (s : Spot). s.board < boards)) row rows (All-head (All (λ (s : Spot). s.board < boards)) row (rows ++ [] ∷ []) on)
    (on_front boards rows (All-tail (All (λ (s : Spot). s.board < boards)) row (rows ++ [] ∷ []) on))

pub listed_pop : (lists : List (List Hit)) (rows : List (List Spot)) → AreListed lists (rows ++ [] ∷ []) → AreListed lists rows
listed_pop lists rows all =
    listed lists rows (λ board lt. list_is lists (rows ++ [] ∷ []) board [] all lt ∙ no_hits board rows) (on_front (length lists) rows all.known)

-- Another list of one board, where the hits on the others stay.
changed : (lists : List (List Hit)) (rows after : List (List Spot)) (board : ℕ) (list : List Hit) → AreListed lists rows → board < length lists → list ≡ hits_by board 0 after
    → ((other : ℕ) → (other ≡ board → ⊥) → hits_by other 0 after ≡ hits_by other 0 rows) → AreOn (length lists) after → AreListed (set lists board list) after
changed lists rows after board list all lt is others on =
    listed (set lists board list) after
    (λ other within. elim (cases_eq other board) [
      | inl same ↦ ap (λ (k : ℕ). get_or (set lists board list) k []) same ∙ get_or-set_same lists board list [] lt ∙ is ∙ ap (λ (k : ℕ). hits_by k 0 after) (sym same)
      | inr differs ↦
          get_or-set_other lists board other list [] differs ∙ list_is lists rows other [] all (omega (arith, within, length-set lists board list)) ∙ sym (others other differs)
    ])
    (subst (λ (n : ℕ). AreOn n after) (sym (length-set lists board list)) on)

-- Two rows of one game that differ by a spot of another board have the same hits.
same_others : (rows : List (List Spot)) (i board : ℕ) (row other_row : List Spot) → i < length rows → hits_at board i row ≡ hits_at board i other_row
    → hits_by board 0 (with_row rows i row) ≡ hits_by board 0 (with_row rows i other_row)
same_others rows i board row other_row lt same =
    around board i rows row lt ∙ ap (λ (l : List Hit). before board i rows ++ (l ++ behind board i rows)) same ∙ sym (around board i rows other_row lt)

-- A spot apart from the others of its row.
pub with_spot : (board i : ℕ) (xs ys : List Spot) (spot : Spot) → board ≡ spot.board → hits_at board i (xs ++ spot ∷ ys) ≡ hits_at board i xs ++ hit_of i spot ∷ hits_at board i ys
with_spot board i xs ys spot here =
    hits_at-append board i xs (spot ∷ ys)
    ∙ ap (λ (l : List Hit). hits_at board i xs ++ l) (hits_at-append board i (spot ∷ []) ys ∙ ap (λ (l : List Hit). l ++ hits_at board i ys) (hits_at-here board i spot here))

without_spot : (board i : ℕ) (xs ys : List Spot) (spot : Spot) → (board ≡ spot.board → ⊥) → hits_at board i (xs ++ spot ∷ ys) ≡ hits_at board i (xs ++ ys)
without_spot board i xs ys spot there =
    hits_at-append board i xs (spot ∷ ys)
    ∙ ap (λ (l : List Hit). hits_at board i xs ++ l) (hits_at-append board i (spot ∷ []) ys ∙ ap (λ (l : List Hit). l ++ hits_at board i ys) (hits_at-there board i spot there))
    ∙ sym (hits_at-append board i xs ys)

-- Spots of boards that are there.
pub on_row : (boards i : ℕ) (rows : List (List Spot)) (row : List Spot) → AreOn boards rows → All (λ (s : Spot). s.board < boards) row → AreOn boards (with_row rows i row)
on_row boards i rows row on known = All-set (All (λ (s : Spot). s.board < boards)) rows i row known on

pub row_known : (boards i : ℕ) (rows : List (List Spot)) → AreOn boards rows → i < length rows → All (λ (s : Spot). s.board < boards) (row_in rows i)
row_known boards i rows on lt = All-get_or (All (λ (s : Spot). s.board < boards)) rows i [] lt on

upto : (i : ℕ) (hits : List Hit) → All (λ (h : Hit). h.game < i) hits → All (λ (h : Hit). h.game ≤ i) hits
upto i hits below = All-weaker (λ (h : Hit). h.game < i) (λ (h : Hit). h.game ≤ i) (λ h lt. omega (arith, lt)) hits below

own_upto : (board i : ℕ) (row : List Spot) → All (λ (h : Hit). h.game ≤ i) (hits_at board i row)
own_upto board i row = All-weaker (λ (h : Hit). h.game ≡ i) (λ (h : Hit). h.game ≤ i) (λ h same. omega (arith, same)) (hits_at board i row) (hits_at-own board i row)

-- One spot more of a game, behind its others.
pub listed_put : (lists : List (List Hit)) (rows : List (List Spot)) (i board : ℕ) (spot : Spot) (row : List Spot) (list : List Hit)
    → AreListed lists rows → i < length rows → board ≡ spot.board → board < length lists → row ≡ row_in rows i ++ spot ∷ []
    → ((front back : List Hit) → get_or lists board [] ≡ front ++ back → All (λ (h : Hit). h.game ≤ i) front → All (λ (h : Hit). i < h.game) back → list ≡ front ++ hit_of i spot ∷ back)
    → AreListed (set lists board list) (with_row rows i row)
listed_put lists rows i board spot row list all lt is within pushed put =
    let old = row_in rows i in
    let A = before board i rows in
    let B = behind board i rows in
    let R = hits_at board i old in
    let now = put (A ++ R) B (list_is lists rows board [] all within ∙ around_own board i rows lt ∙ sym (append_assoc A R B))
    (All-append (λ (h : Hit). h.game ≤ i) A R (upto i A (before-below board i rows lt)) (own_upto board i old)) (behind-above board i rows) in
    let hits : hits_at board i row ≡ R ++ hit_of i spot ∷ [] = ap (hits_at board i) pushed ∙ with_spot board i old [] spot is in
    changed lists rows (with_row rows i row) board list all within
    (now ∙ append_assoc A R (hit_of i spot ∷ B) ∙ ap (λ (l : List Hit). A ++ l) (sym (append_assoc R (hit_of i spot ∷ []) B))
    ∙ ap (λ (l : List Hit). A ++ (l ++ B)) (sym hits) ∙ sym (around board i rows row lt))
    (λ other differs.
    let gone : hits_at other i row ≡ hits_at other i old = ap (hits_at other i) pushed ∙ without_spot other i old [] spot (λ same. differs (same ∙ sym is)) ∙ ap (hits_at other i) (append-nil old) in
    around other i rows row lt ∙ ap (λ (l : List Hit). before other i rows ++ (l ++ behind other i rows)) gone ∙ sym (around_own other i rows lt))
    (on_row (length lists) i rows row all.known (subst (All (λ (s : Spot). s.board < length lists)) (sym pushed)
    (All-push (λ (s : Spot). s.board < length lists) old spot (row_known (length lists) i rows all.known lt) (omega (arith, is, within)))))

pub on_less : (rows : List (List Spot)) (i : ℕ) (row less : List Spot) (boards : ℕ) → i < length rows → AreOn boards (with_row rows i row)
    → (All (λ (s : Spot). s.board < boards) row → All (λ (s : Spot). s.board < boards) less) → AreOn boards (with_row rows i less)
on_less rows i row less boards lt on fewer =
    let known = All-get_or (All (λ (s : Spot). s.board < boards)) (with_row rows i row) i [] (omega (arith, lt, length-set rows i row)) on in
    subst (AreOn boards) (set-set rows i row less)
    (All-set (All (λ (s : Spot). s.board < boards)) (with_row rows i row) i less (fewer (subst (All (λ (s : Spot). s.board < boards)) (get_or-set_same rows i row [] lt) known)) on)

pub on_moved : (boards : ℕ) (to : List (Option ℕ)) (rows : List (List Spot)) → AreOn boards rows → AreOn boards (renumbered to rows)
on_moved boards [] rows on = All-nil (All (λ (s : Spot). s.board < boards))
on_moved boards (number ∷ to) [] on = All-nil (All (λ (s : Spot). s.board < boards))
on_moved boards (None ∷ to) (row ∷ rows) on = on_moved boards to rows (All-tail (All (λ (s : Spot). s.board < boards)) row rows on)
on_moved boards (Some number ∷ to) (row ∷ rows) on =
    All-cons (All (λ (s : Spot). s.board < boards)) row (renumbered to rows) (All-head (All (λ (s : Spot). s.board < boards)) row rows on)
    (on_moved boards to rows (All-tail (All (λ (s : Spot). s.board < boards)) row rows on))

own_from : (board i : ℕ) (row : List Spot) → All (λ (h : Hit). i ≤ h.game) (hits_at board i row)
own_from board i row = All-weaker (λ (h : Hit). h.game ≡ i) (λ (h : Hit). i ≤ h.game) (λ h same. omega (arith, same)) (hits_at board i row) (hits_at-own board i row)

all_without : (P : Spot → Type 0) (front : List Spot) (spot : Spot) (rest : List Spot) → All P (front ++ spot ∷ rest) → All P (front ++ rest)
all_without P [] spot rest all = All-tail P spot rest all
all_without P (s ∷ front) spot rest all =
    All-cons P s (front ++ rest) (All-head P s (front ++ spot ∷ rest) all) (all_without P front spot rest (All-tail P s (front ++ spot ∷ rest) all))

all_other : (P : Spot → Type 0) (front : List Spot) (spot other : Spot) (rest : List Spot) → (P spot → P other) → All P (front ++ spot ∷ rest) → All P (front ++ other ∷ rest)
all_other P [] spot other rest keeps all = All-cons P other rest (keeps (All-head P spot rest all)) (All-tail P spot rest all)
all_other P (s ∷ front) spot other rest keeps all =
    All-cons P s (front ++ other ∷ rest) (All-head P s (front ++ spot ∷ rest) all) (all_other P front spot other rest keeps (All-tail P s (front ++ spot ∷ rest) all))

-- The hits on the board of a spot in the middle of a row.
module _ (lists : List (List Hit)) (rows : List (List Spot)) (i board : ℕ) (front : List Spot) (spot : Spot) (rest : List Spot)
    (all : AreListed lists (with_row rows i (front ++ spot ∷ rest))) (lt : i < length rows) (is : board ≡ spot.board) (within : board < length lists) where
  whole : get_or lists board [] ≡ before board i rows ++ (hits_at board i front ++ hit_of i spot ∷ (hits_at board i rest ++ behind board i rows))
  whole =
      list_is lists (with_row rows i (front ++ spot ∷ rest)) board [] all within ∙ around board i rows (front ++ spot ∷ rest) lt
      ∙ ap (λ (l : List Hit). before board i rows ++ (l ++ behind board i rows)) (with_spot board i front rest spot is)
      ∙ ap (λ (l : List Hit). before board i rows ++ l) (append_assoc (hits_at board i front) (hit_of i spot ∷ hits_at board i rest) (behind board i rows))

  from_game : All (λ (h : Hit). i ≤ h.game) (hits_at board i front ++ hit_of i spot ∷ (hits_at board i rest ++ behind board i rows))
  from_game =
      All-append (λ (h : Hit). i ≤ h.game) (hits_at board i front) (hit_of i spot ∷ (hits_at board i rest ++ behind board i rows)) (own_from board i front)
      (All-cons (λ (h : Hit). i ≤ h.game) (hit_of i spot) (hits_at board i rest ++ behind board i rows) (let here : i ≤ i = omega arith in here)
      (All-append (λ (h : Hit). i ≤ h.game) (hits_at board i rest) (behind board i rows) (own_from board i rest)
      (All-weaker (λ (h : Hit). i < h.game) (λ (h : Hit). i ≤ h.game) (λ h less. omega (arith, less)) (behind board i rows) (behind-above board i rows))))

  -- One spot less of a game.
  pub listed_without : (list : List Hit) (rank : ℕ) → rank ≡ length (hits_at board i front)
      → ((front own back : List Hit) (hit : Hit) → get_or lists board [] ≡ front ++ (own ++ hit ∷ back) → All (λ (h : Hit). h.game < i) front → All (λ (h : Hit). i ≤ h.game) (own ++ hit ∷ back)
      → rank ≡ length own → list ≡ front ++ (own ++ back))
      → AreListed (set lists board list) (with_row rows i (front ++ rest))
  listed_without list rank own taken =
      changed lists (with_row rows i (front ++ spot ∷ rest)) (with_row rows i (front ++ rest)) board list all within
      (taken (before board i rows) (hits_at board i front) (hits_at board i rest ++ behind board i rows) (hit_of i spot) whole (before-below board i rows lt) from_game own
      ∙ ap (λ (l : List Hit). before board i rows ++ l) (sym (append_assoc (hits_at board i front) (hits_at board i rest) (behind board i rows)))
      ∙ ap (λ (l : List Hit). before board i rows ++ (l ++ behind board i rows)) (sym (hits_at-append board i front rest)) ∙ sym (around board i rows (front ++ rest) lt))
      (λ other differs. same_others rows i other (front ++ rest) (front ++ spot ∷ rest) lt (sym (without_spot other i front rest spot (λ same. differs (same ∙ sym is)))))
      (on_less rows i (front ++ spot ∷ rest) (front ++ rest) (length lists) lt all.known (all_without (λ (s : Spot). s.board < length lists) front spot rest))

  -- Another move after it.
  pub listed_next : (other : Spot) (list : List Hit) (rank : ℕ) → board ≡ other.board → rank ≡ length (hits_at board i front)
      → ((front own back : List Hit) (hit : Hit) → get_or lists board [] ≡ front ++ (own ++ hit ∷ back) → All (λ (h : Hit). h.game < i) front → All (λ (h : Hit). i ≤ h.game) (own ++ hit ∷ back)
      → rank ≡ length own → list ≡ front ++ (own ++ record hit { next = other.next } ∷ back)) → other.ply ≡ spot.ply
      → AreListed (set lists board list) (with_row rows i (front ++ other ∷ rest))
  listed_next other list rank at own put ply =
      let hit : record (hit_of i spot) { next = other.next } ≡ hit_of i other = λ j. record { game = i; ply = sym ply j; next = other.next } in
      changed lists (with_row rows i (front ++ spot ∷ rest)) (with_row rows i (front ++ other ∷ rest)) board list all within
      (put (before board i rows) (hits_at board i front) (hits_at board i rest ++ behind board i rows) (hit_of i spot) whole (before-below board i rows lt) from_game own
      ∙ ap (λ (h : Hit). before board i rows ++ (hits_at board i front ++ h ∷ (hits_at board i rest ++ behind board i rows))) hit
      ∙ ap (λ (l : List Hit). before board i rows ++ l) (sym (append_assoc (hits_at board i front) (hit_of i other ∷ hits_at board i rest) (behind board i rows)))
      ∙ ap (λ (l : List Hit). before board i rows ++ (l ++ behind board i rows)) (sym (with_spot board i front rest other at)) ∙ sym (around board i rows (front ++ other ∷ rest) lt))
      (λ apart differs. same_others rows i apart (front ++ other ∷ rest) (front ++ spot ∷ rest) lt
      (without_spot apart i front rest other (λ same. differs (same ∙ sym at)) ∙ sym (without_spot apart i front rest spot (λ same. differs (same ∙ sym is)))))
      (on_less rows i (front ++ spot ∷ rest) (front ++ other ∷ rest) (length lists) lt all.known
      (all_other (λ (s : Spot). s.board < length lists) front spot other rest (λ below. omega (arith, below, is, at))))

-- One spot less of a game at the end of those that are left.
pub listed_last : (lists : List (List Hit)) (rows : List (List Spot)) (i board : ℕ) (spot : Spot) (rest : List Spot) (list : List Hit)
    → AreListed lists (with_row rows i (rest ++ spot ∷ [])) → i < length rows → board ≡ spot.board → board < length lists
    → ((front back : List Hit) (hit : Hit) → get_or lists board [] ≡ front ++ hit ∷ back → All (λ (h : Hit). h.game ≤ i) (front ++ hit ∷ []) → All (λ (h : Hit). i < h.game) back → list ≡ front ++ back)
    → AreListed (set lists board list) (with_row rows i rest)
listed_last lists rows i board spot rest list all lt is within taken =
    let A = before board i rows in
    let B = behind board i rows in
    let R = hits_at board i rest in
    let hits : hits_at board i (rest ++ spot ∷ []) ≡ R ++ hit_of i spot ∷ [] = with_spot board i rest [] spot is in
    let up : All (λ (h : Hit). h.game ≤ i) ((A ++ R) ++ hit_of i spot ∷ []) =
    All-push (λ (h : Hit). h.game ≤ i) (A ++ R) (hit_of i spot) (All-append (λ (h : Hit). h.game ≤ i) A R (upto i A (before-below board i rows lt)) (own_upto board i rest)) (let here : i ≤ i = omega arith in here) in
    let now = taken (A ++ R) B (hit_of i spot)
    (list_is lists (with_row rows i (rest ++ spot ∷ [])) board [] all within ∙ around board i rows (rest ++ spot ∷ []) lt ∙ ap (λ (l : List Hit). A ++ (l ++ B)) hits
    ∙ ap (λ (l : List Hit). A ++ l) (append_assoc R (hit_of i spot ∷ []) B) ∙ sym (append_assoc A R (hit_of i spot ∷ B)))
    up (behind-above board i rows) in
    changed lists (with_row rows i (rest ++ spot ∷ [])) (with_row rows i rest) board list all within (now ∙ append_assoc A R B ∙ sym (around board i rows rest lt))
    (λ other differs. same_others rows i other rest (rest ++ spot ∷ []) lt
    (sym (without_spot other i rest [] spot (λ same. differs (same ∙ sym is)) ∙ ap (hits_at other i) (append-nil rest))))
    (on_less rows i (rest ++ spot ∷ []) rest (length lists) lt all.known (λ known. λ k d less.
    subst (λ (s : Spot). s.board < length lists) (get_or_append_left rest (spot ∷ []) d k less) (known k d (omega (arith, less, length_push rest spot)))))

-- New numbers.
pub listed_moved : (lists : List (List Hit)) (rows : List (List Spot)) (to : List (Option ℕ)) (kept : ℕ) → AreListed lists rows → Rises 0 to kept → length to ≡ length rows
    → AreListed (map (moved to) lists) (renumbered to rows)
listed_moved lists rows to kept all rises same =
    listed (map (moved to) lists) (renumbered to rows)
    (λ board lt.
    let within : board < length lists = omega (arith, lt, length-map lists (moved to)) in
    get_or-map (moved to) lists board [] [] within ∙ ap (moved to) (list_is lists rows board [] all within)
    ∙ moved_rows to board 0 0 kept to rows rises same (λ k. ap (λ (n : ℕ). get_or to n None) (let e : 0 + k ≡ k = omega arith in e)))
    (subst (λ (n : ℕ). AreOn n (renumbered to rows)) (sym (length-map lists (moved to))) (on_moved (length lists) to rows all.known))

-- The games of the hits are below the number of rows.
pub lists_below : (lists : List (List Hit)) (rows : List (List Spot)) → AreListed lists rows → All (All (λ (h : Hit). h.game < length rows)) lists
lists_below lists rows all = λ board d lt.
    subst (All (λ (h : Hit). h.game < length rows)) (sym (list_is lists rows board d all lt)) (
    All-weaker (λ (h : Hit). h.game < 0 + length rows) (λ (h : Hit). h.game < length rows) (λ h less. omega (arith, less)) (hits_by board 0 rows) (hits_by-below board 0 rows))

-- What a pop leaves.
pub popped : {T : Type 0} (xs new rows : List (List T)) → xs ≡ rows ++ [] ∷ [] → new ≡ take (length xs - 1) xs → new ≡ rows
popped {T = T} xs new rows is rest =
    rest ∙ ap (λ (l : List (List T)). take (length l - 1) l) is
    ∙ take_at rows ([] ∷ []) (length (rows ++ [] ∷ []) - 1) (omega (arith, length_push {X = List T} rows []))

-- The hits of the spots behind those in front, one after the other.
pub middle_step : (lists : List (List Hit)) (rows : List (List Spot)) (game k board rank : ℕ) (front spots behind : List Spot) (spot : Spot) (list : List Hit)
    → AreListed lists (with_row rows game (front ++ (drop k spots ++ behind))) → game < length rows → k < length spots → spot ≡ get_or spots k spot → board ≡ spot.board → board < length lists
    → rank ≡ length (hits_at board game front)
    → ((before own back : List Hit) (hit : Hit) → get_or lists board [] ≡ before ++ (own ++ hit ∷ back) → All (λ (h : Hit). h.game < game) before → All (λ (h : Hit). game ≤ h.game) (own ++ hit ∷ back)
    → rank ≡ length own → list ≡ before ++ (own ++ back))
    → AreListed (set lists board list) (with_row rows game (front ++ (drop (k + 1) spots ++ behind)))
middle_step lists rows game k board rank front spots behind spot list all lt within is at on own taken =
    let row : front ++ (drop k spots ++ behind) ≡ front ++ spot ∷ (drop (k + 1) spots ++ behind) =
    ap (λ (l : List Spot). front ++ (l ++ behind)) (drop_more spots k spot within ∙ ap (λ (s : Spot). s ∷ drop (k + 1) spots) (sym is)) in
    listed_without lists rows game board front spot (drop (k + 1) spots ++ behind)
    (subst (λ (l : List Spot). AreListed lists (with_row rows game l)) row all) lt at on list rank own taken

-- The hits of the last spots that are left, one after the other.
pub lasts_step : (lists : List (List Hit)) (rows : List (List Spot)) (game k board : ℕ) (spots front_row : List Spot) (spot : Spot) (list : List Hit)
    → AreListed lists (with_row rows game (front_row ++ take (length spots - k) spots)) → game < length rows → k < length spots → spot ≡ get_or spots (length spots - 1 - k) spot
    → board ≡ spot.board → board < length lists
    → ((front back : List Hit) (hit : Hit) → get_or lists board [] ≡ front ++ hit ∷ back → All (λ (h : Hit). h.game ≤ game) (front ++ hit ∷ []) → All (λ (h : Hit). game < h.game) back → list ≡ front ++ back)
    → AreListed (set lists board list) (with_row rows game (front_row ++ take (length spots - (k + 1)) spots))
lasts_step lists rows game k board spots front_row spot list all lt within is at on taken =
    let n = length spots - (k + 1) in
    let there : length spots - k ≡ n + 1 = omega (arith, within) in
    let here : length spots - 1 - k ≡ n = omega (arith, within) in
    let row : front_row ++ take (length spots - k) spots ≡ (front_row ++ take n spots) ++ spot ∷ [] =
    ap (λ (m : ℕ). front_row ++ take m spots) there
    ∙ ap (λ (l : List Spot). front_row ++ l) (take_more spots n spot (omega (arith, within)) ∙ ap (λ (s : Spot). take n spots ++ s ∷ []) (sym (is ∙ ap (λ (m : ℕ). get_or spots m spot) here)))
    ∙ sym (append_assoc front_row (take n spots) (spot ∷ [])) in
    listed_last lists rows game board spot (front_row ++ take n spots) list
    (subst (λ (l : List Spot). AreListed lists (with_row rows game l)) row all) lt at on taken

-- Nothing is taken yet.
pub none_taken : (lists : List (List Hit)) (rows : List (List Spot)) (game : ℕ) (row : List Spot) → row_in rows game ≡ row → AreListed lists rows → AreListed lists (with_row rows game row)
none_taken lists rows game row is all = subst (AreListed lists) (sym (ap (with_row rows game) (sym is) ∙ set-get_or rows game [])) all

-- A list that was written back whole.
pub written_back : {T : Type 0} (new old : List T) (len : ℕ) → len ≡ length new → take len (new ++ drop (length new) old) ≡ new
written_back new old len same = take_at new (drop (length new) old) len (sym same)

-- Another move after a spot of a game.
pub listed_set : (lists : List (List Hit)) (rows : List (List Spot)) (i k board rank : ℕ) (row after : List Spot) (next : Option Move) (list : List Hit)
    → AreListed lists rows → i < length rows → row ≡ row_in rows i → k < length row → board ≡ (spot_in row k).board → rank ≡ length (hits_at board i (take k row))
    → ((front own back : List Hit) (hit : Hit) → get_or lists board [] ≡ front ++ (own ++ hit ∷ back) → All (λ (h : Hit). h.game < i) front → All (λ (h : Hit). i ≤ h.game) (own ++ hit ∷ back)
    → rank ≡ length own → list ≡ front ++ (own ++ record hit { next = next } ∷ back))
    → after ≡ set row k (next_set next (spot_in row k)) → AreListed (set lists board list) (with_row rows i after)
listed_set lists rows i k board rank row after next list all lt is within at own put put_is =
    let spot = spot_in row k in
    let whole : row ≡ take k row ++ spot ∷ drop (suc k) row = sym (set-get_or row k (spot_in [] 0)) ∙ set_split row k spot within in
    let known : spot.board < length lists =
    subst (λ (l : List Spot). (spot_in l k).board < length lists) (sym is) (row_known (length lists) i rows all.known lt k (spot_in [] 0) (omega (arith, within, ap length is))) in
    subst (λ (r : List Spot). AreListed (set lists board list) (with_row rows i r)) (sym (put_is ∙ set_split row k (next_set next spot) within))
    (listed_next lists rows i board (take k row) spot (drop (suc k) row) (none_taken lists rows i (take k row ++ spot ∷ drop (suc k) row) (sym is ∙ whole) all) lt at (omega (arith, at, known))
    (next_set next spot) list rank at own put refl)

pub board_known : (lists : List (List Hit)) (rows : List (List Spot)) (i k : ℕ) (spot : Spot) → AreListed lists rows → i < length rows → k < length (row_in rows i) → spot ≡ get_or (row_in rows i) k spot
    → spot.board < length lists
board_known lists rows i k spot all lt within is =
    subst (λ (s : Spot). s.board < length lists) (sym is) (row_known (length lists) i rows all.known lt k spot within)
