-- Which boards a game reaches, and which of those that games reach have a page.
use Rattle.std.proofs.Common.{◌≡◌, ◌<◌, ◌≤◌, ◌+◌, ◌-◌, ℕ, zero, suc, Bool, true, false, List, [], ◌∷◌, ◌++◌, drop, filter, get_or, length, map, min, take, Option, None, Some, refl, sym, ap, ◌∙◌, subst, arith, inl, inr, true≢false}
use Rattle.std.specs.Prelude.{◌||◌, if◌then◌else◌, nat_le, slice_get, ⊤}
use Rattle.std.specs.List.{IsDistinct, position_or_len}
use Rattle.std.proofs.Math.Seq.{drop-length}
use Rattle.std.proofs.lemmas.Bool.{cases_Bool, cases_eq, cases_lt, leb-false, leb-true, lt-leb}
use Rattle.std.proofs.lemmas.List.{append-nil, drop_all, ext_get_or, get_or-drop, get_or-map, get_or-take, length-drop, length-map, length-take, length_push, take-append-le, take_all, take_more}
use Rattle.std.proofs.lemmas.List.Elements.{filter-append}
use Rattle.std.proofs.lemmas.List.Folds.{list_any_at}
use Rattle.std.proofs.lemmas.List.FromFn.{get_or-map-range_with_len, length-map-range_with_len}
use Rattle.std.proofs.lemmas.List.Sums.{fold_push, passes_at_first, position_or_len_is, prefix_len-le-length}
use Rattle.std.proofs.lemmas.Map.Keys.{apart_from_distinct}
use Rattle.std.proofs.lemmas.Option.{get_or_from_slice_get, slice_get-get_or, slice_get_within}
use Rattle.cell_core.specs.Packed.{Packed}
use Rattle.game_tree.specs.Game.{GameTree}
use Rattle.game_tree.specs.Replay.{plies_of}
use Rattle.indexmap.specs.IndexSet.{insert_all, insert_key}
use Rattle.book_pages.specs.Book.{has_page, packed_eq}
use Rattle.book_pages.specs.Hits.{game_in, ply_in}
use Rattle.book_pages.specs.Meeting.{AreCounts, HaveReached, HowMany, Meets, Reaches, count_from, how_many, no_game, well_met}
use Rattle.book_pages.specs.Reached.{IsLeast, board_at, boards_of, book_boards, met_below, reached, reached_by, reached_by_many, reached_if_in, reaching_below}
use Rattle.book_pages.specs.declared.reach.Reach.{Reach}
use Rattle.book_pages.proofs.CountLemmas.{place, reaches_more, reaches_none}
use Rattle.book_pages.proofs.PlaceLemmas.{no_board, packed_eq-Decides}

-- ---- the boards of one game

turned : (a b : Packed) → packed_eq a b ≡ false → packed_eq b a ≡ false
turned a b differ = elim (cases_Bool (packed_eq b a)) [
  | inl same ↦ absurd (true≢false (sym ((packed_eq-Decides a b).1 (sym ((packed_eq-Decides b a).0 same))) ∙ differ))
  | inr fails ↦ fails
]

-- A test of the board of a position.
pub tested : (start board here : Packed) (b : Bool) → packed_eq board start ≡ b → board ≡ here → packed_eq start here ≡ b
tested start board here true same at = (packed_eq-Decides start here).1 (sym ((packed_eq-Decides board start).0 same) ∙ at)
tested start board here false differ at = ap (packed_eq start) (sym at) ∙ turned board start differ

board_is : (game : GameTree) (k : ℕ) → k ≤ plies_of game → get_or (boards_of game) k no_board ≡ board_at game k
board_is game k less = get_or-map-range_with_len (board_at game) 0 (plies_of game + 1) k k no_board (omega (arith, less)) (omega arith)

count_is : (game : GameTree) → length (boards_of game) ≡ plies_of game + 1
count_is game = length-map-range_with_len (board_at game) 0 (plies_of game + 1)

abbrev pub IsMissed : Packed → GameTree → ℕ → Type 0
IsMissed start game ply = (k : ℕ) → k < ply → packed_eq start (board_at game k) ≡ false

pub missed_none : (start : Packed) (game : GameTree) (ply : ℕ) → ply ≡ 0 → IsMissed start game ply
missed_none start game ply none = λ k before. absurd (omega (arith, before, none))

pub missed_more : (start : Packed) (game : GameTree) (ply : ℕ) → IsMissed start game ply → packed_eq start (board_at game ply) ≡ false → IsMissed start game (ply + 1)
missed_more start game ply missed here = λ k before. elim (cases_eq k ply) [
  | inl same ↦ ap (λ (n : ℕ). packed_eq start (board_at game n)) same ∙ here
  | inr apart ↦ missed k (omega (arith, before, apart))
]

-- Where the start comes for the first time, or never.
pub starts_at : (start : Packed) (game : GameTree) (ply : ℕ) → ply ≤ plies_of game → IsMissed start game ply → packed_eq start (board_at game ply) ≡ true
    → position_or_len (packed_eq start) (boards_of game) ≡ ply
starts_at start game ply less missed here =
    position_or_len_is (packed_eq start) (boards_of game) ply no_board (omega (arith, less, count_is game))
    (λ k before. ap (packed_eq start) (board_is game k (omega (arith, before, less))) ∙ missed k before)
    (λ on. ap (packed_eq start) (board_is game ply less) ∙ here)

pub starts_never : (start : Packed) (game : GameTree) (ply : ℕ) → plies_of game ≤ ply → IsMissed start game (ply + 1)
    → position_or_len (packed_eq start) (boards_of game) ≡ length (boards_of game)
starts_never start game ply all missed =
    position_or_len_is (packed_eq start) (boards_of game) (length (boards_of game)) no_board (omega arith)
    (λ k before. ap (packed_eq start) (board_is game k (omega (arith, before, count_is game))) ∙ missed k (omega (arith, before, all, count_is game)))
    (λ on. absurd (omega (arith, on)))

pub reached_none : (reach : Reach) (game : GameTree) → position_or_len (packed_eq reach.start) (boards_of game) ≡ length (boards_of game)
    → reached reach (boards_of game) ≡ []
reached_none reach game never =
    ap (λ (n : ℕ). take (reach.depth + 1) (drop n (boards_of game))) never ∙ ap (take (reach.depth + 1)) (drop-length (boards_of game))
    ∙ take_all (reach.depth + 1) [] (omega arith)

-- One board more behind a ply.
pub path_more : (game : GameTree) (ply n : ℕ) → ply + n ≤ plies_of game
    → take (n + 1) (drop ply (boards_of game)) ≡ take n (drop ply (boards_of game)) ++ board_at game (ply + n) ∷ []
path_more game ply n less =
    take_more (drop ply (boards_of game)) n no_board (omega (arith, less, count_is game, length-drop ply (boards_of game)))
    ∙ ap (λ (board : Packed). take n (drop ply (boards_of game)) ++ board ∷ []) (get_or-drop ply (boards_of game) n no_board ∙ board_is game (ply + n) less)

-- At the end of the main line.
pub path_end : (game : GameTree) (ply n depth : ℕ) → plies_of game ≤ ply + n → n ≤ depth
    → take (n + 1) (drop ply (boards_of game)) ≡ take (depth + 1) (drop ply (boards_of game))
path_end game ply n depth all less =
    take_all (n + 1) (drop ply (boards_of game)) (omega (arith, all, count_is game, length-drop ply (boards_of game)))
    ∙ sym (take_all (depth + 1) (drop ply (boards_of game)) (omega (arith, all, less, count_is game, length-drop ply (boards_of game))))

-- The boards so far are counted, and one more.
pub path_first : (i : ℕ) (game : GameTree) (ply : ℕ) (boards : List Packed) (met : List HowMany) (boards' : List Packed) (met' : List HowMany) → ply ≤ plies_of game
    → AreCounts i boards met → Meets i (board_at game ply) boards met boards' met' → Reaches i (take 1 (drop ply (boards_of game))) boards met boards' met'
path_first i game ply boards met boards' met' less kept now' =
    let here : ply + 0 ≡ ply = omega arith in
    let one : take 1 (drop ply (boards_of game)) ≡ board_at game ply ∷ [] =
    path_more game ply 0 (omega (arith, less)) ∙ ap (λ (n : ℕ). board_at game n ∷ []) here in
    subst (λ (l : List Packed). Reaches i l boards met boards' met') (sym one)
    (reaches_more i [] (board_at game ply) boards met boards met boards' met' kept (reaches_none i boards met) now')

pub path_next : (i : ℕ) (game : GameTree) (ply n here : ℕ) (boards : List Packed) (met : List HowMany) (boards1 : List Packed) (met1 : List HowMany) (boards' : List Packed) (met' : List HowMany)
    → here ≡ ply + (n + 1) → here ≤ plies_of game → AreCounts i boards met → Reaches i (take (n + 1) (drop ply (boards_of game))) boards met boards1 met1
    → Meets i (board_at game here) boards1 met1 boards' met' → Reaches i (take (n + 1 + 1) (drop ply (boards_of game))) boards met boards' met'
path_next i game ply n here boards met boards1 met1 boards' met' at less kept had now' =
    subst (λ (l : List Packed). Reaches i l boards met boards' met') (sym (path_more game ply (n + 1) (omega (arith, at, less))))
    (reaches_more i (take (n + 1) (drop ply (boards_of game))) (board_at game (ply + (n + 1))) boards met boards1 met1 boards' met' kept had
    (subst (λ (k : ℕ). Meets i (board_at game k) boards1 met1 boards' met') at now'))

-- ---- how many boards so many games reach

own_number : (boards : List Packed) (k : ℕ) (board : Packed) → IsDistinct packed_eq boards → slice_get boards k ≡ Some board → place boards board ≡ k
own_number boards k board distinct there =
    let less = slice_get_within boards k board there in
    let at : get_or boards k no_board ≡ board = get_or_from_slice_get boards k board no_board there in
    position_or_len_is (packed_eq board) boards k no_board (omega (arith, less))
    (λ j before. turned (get_or boards j no_board) board (ap (packed_eq (get_or boards j no_board)) (sym at) ∙ apart_from_distinct packed_eq boards j k no_board distinct before less))
    (λ on. (packed_eq-Decides board (get_or boards k no_board)).1 (sym at))

own_games : (boards : List Packed) (met : List HowMany) (k : ℕ) (board : Packed) → IsDistinct packed_eq boards → slice_get boards k ≡ Some board
    → how_many boards met board ≡ get_or met k no_game
own_games boards met k board distinct there = ap (λ (n : ℕ). get_or met n no_game) (own_number boards k board distinct there)

-- The games of the number at a place are those of its board.
pub games_on : (boards : List Packed) (met : List HowMany) (k : ℕ) (board : Packed) (item : HowMany) → IsDistinct packed_eq boards → length met ≡ length boards
    → slice_get boards k ≡ Some board → item ≡ get_or met k item → (how_many boards met board).games ≡ item.games
games_on boards met k board item distinct count there is =
    let less = slice_get_within boards k board there in
    let at : slice_get met k ≡ Some item = slice_get-get_or met k item (omega (arith, less, count)) ∙ ap Some (sym is) in
    ap (λ (m : HowMany). m.games) (own_games boards met k board distinct there ∙ get_or_from_slice_get met k item no_game at)

length-filter-map : {X Y : Type 0} (p : Y → Bool) (f : X → Y) (xs : List X) → length (filter p (map f xs)) ≡ length (filter (λ x. p (f x)) xs)
length-filter-map p f [] = refl
length-filter-map p f (x ∷ xs) = by (p (f x)) (length-filter-map p f xs)
  where
    by : (b : Bool) → length (filter p (map f xs)) ≡ length (filter (λ x. p (f x)) xs)
        → length (if b then f x ∷ filter p (map f xs) else filter p (map f xs)) ≡ length (if b then x ∷ filter (λ x. p (f x)) xs else filter (λ x. p (f x)) xs)
    by true rest = ap suc rest
    by false rest = rest

pub counts_same : (boards : List Packed) (met : List HowMany) → IsDistinct packed_eq boards → length met ≡ length boards → (least : ℕ)
    → count_from met least ≡ length (well_met boards met least)
counts_same boards met distinct count least =
    ap (λ (l : List HowMany). count_from l least) (sym each) ∙ length-filter-map (λ (many : HowMany). nat_le least many.games) (how_many boards met) boards
  where
    each : map (how_many boards met) boards ≡ met
    each = ext_get_or no_game (map (how_many boards met) boards) met (length-map boards (how_many boards met) ∙ sym count)
        (λ k less.
        let within : k < length boards = omega (arith, less, length-map boards (how_many boards met)) in
        get_or-map (how_many boards met) boards k no_board no_game within ∙ own_games boards met k (get_or boards k no_board) distinct (slice_get-get_or boards k no_board within))

-- The more games, the fewer boards.
pub fewer_left : (met : List HowMany) (a b : ℕ) → a ≤ b → count_from met b ≤ count_from met a
fewer_left [] a b less = omega arith
fewer_left (many ∷ met) a b less = by (nat_le a many.games) (nat_le b many.games) refl refl (fewer_left met a b less)
  where
    A : List HowMany
    A = filter (λ (m : HowMany). nat_le a m.games) met

    B : List HowMany
    B = filter (λ (m : HowMany). nat_le b m.games) met

    by : (x y : Bool) → nat_le a many.games ≡ x → nat_le b many.games ≡ y → length B ≤ length A → length (if y then many ∷ B else B) ≤ length (if x then many ∷ A else A)
    by true true is_a is_b rest = omega (arith, rest)
    by true false is_a is_b rest = omega (arith, rest)
    by false true is_a is_b rest = absurd (let no = leb-false a many.games is_a in let yes = leb-true b many.games is_b in omega (arith, no, yes, less))
    by false false is_a is_b rest = rest

pub none_left : (met : List HowMany) (least : ℕ) → ((k : ℕ) (d : HowMany) → k < length met → (get_or met k d).games < least) → count_from met least ≡ 0
none_left [] least all = refl
none_left (many ∷ met) least all =
    ap (λ (b : Bool). length (if b then many ∷ rest else rest)) (lt-leb least many.games (all 0 many (omega arith)))
    ∙ none_left met least (λ k d less. all (suc k) d (omega (arith, less)))
  where
    rest : List HowMany
    rest = filter (λ (m : HowMany). nat_le least m.games) met

pub above : (met : List HowMany) (least enough : ℕ) → 20000 < count_from met least → count_from met enough ≡ 0 → least < enough
above met least enough many none = elim (cases_lt least enough) [
  | inl less ↦ less
  | inr past ↦ let more = fewer_left met enough least past in absurd (omega (arith, more, many, none))
]

-- ---- what was counted, and the definition

same_boards : (reach : Reach) (plies : List (Option ℕ)) (games : List GameTree) (boards : List Packed) (met : List HowMany)
    → HaveReached reach plies games (length plies) boards met → (least : ℕ) → well_met boards met least ≡ reached_by_many reach plies games least
same_boards reach plies games boards met had least = λ j. filter (λ board. nat_le least (had.each board j)) (had.order j)

counted_same : (reach : Reach) (plies : List (Option ℕ)) (games : List GameTree) (boards : List Packed) (met : List HowMany) → IsDistinct packed_eq boards
    → length met ≡ length boards → HaveReached reach plies games (length plies) boards met → (least : ℕ)
    → count_from met least ≡ length (reached_by_many reach plies games least)
counted_same reach plies games boards met distinct count had least =
    counts_same boards met distinct count least ∙ ap length (same_boards reach plies games boards met had least)

-- ---- the boards of a book

insert_short : (boards : List Packed) (board : Packed) → length (insert_key packed_eq boards board) ≤ length boards + 1
insert_short boards board = by (has_page board boards)
  where
    by : (b : Bool) → length (if b then boards else boards ++ board ∷ []) ≤ length boards + 1
    by true = omega arith
    by false = omega (arith, length_push boards board)

-- Of a list that is cut, while it is not full and once it is.
pub cut_more : (n : ℕ) (all boards : List Packed) (board : Packed) → boards ≡ take n all → length boards < n
    → insert_key packed_eq boards board ≡ take n (insert_key packed_eq all board)
cut_more n all boards board is less =
    let short : min n (length all) < n = omega (arith, sym (length-take n all), ap length is, less) in
    let fits : length all < n = grind (arith, short) in
    ap (λ (l : List Packed). insert_key packed_eq l board) (is ∙ take_all n all (omega (arith, fits)))
    ∙ sym (take_all n (insert_key packed_eq all board) (omega (arith, fits, insert_short all board)))

pub cut_full : (n : ℕ) (all boards : List Packed) (board : Packed) → boards ≡ take n all → n ≤ length boards → boards ≡ take n (insert_key packed_eq all board)
cut_full n all boards board is full = by (has_page board all)
  where
    long : n ≤ length all
    long = let least : n ≤ min n (length all) = omega (arith, length-take n all, ap length is, full) in grind (arith, least)

    by : (b : Bool) → boards ≡ take n (if b then all else all ++ board ∷ [])
    by true = is
    by false = is ∙ sym (take-append-le n all (board ∷ []) long)

pub cut_short : (boards all : List Packed) → boards ≡ take 20000 all → length boards ≤ 20000
cut_short boards all is = let short : length boards ≡ min 20000 (length all) = ap length is ∙ length-take 20000 all in grind (arith, short)

-- The boards of the first so many that were met.
abbrev pub enough_on : List Packed → List HowMany → ℕ → Packed → Bool
enough_on boards met least board = nat_le least (how_many boards met board).games

abbrev pub chosen_of : Packed → List Packed → List HowMany → ℕ → ℕ → List Packed
chosen_of start boards met least n = insert_all packed_eq (start ∷ []) (filter (enough_on boards met least) (take n boards))

next_chosen : (start : Packed) (boards : List Packed) (p : Packed → Bool) (n : ℕ) (board : Packed) (b : Bool) → slice_get boards n ≡ Some board → p board ≡ b
    → insert_all packed_eq (start ∷ []) (filter p (take (n + 1) boards)) ≡ insert_all packed_eq (start ∷ []) (filter p (take n boards) ++ (if b then board ∷ [] else []))
next_chosen start boards p n board b there is =
    ap (λ (l : List Packed). insert_all packed_eq (start ∷ []) (filter p l))
    (take_more boards n board (slice_get_within boards n board there) ∙ ap (λ (x : Packed). take n boards ++ x ∷ []) (get_or_from_slice_get boards n board board there))
    ∙ ap (insert_all packed_eq (start ∷ [])) (filter-append p (take n boards) (board ∷ []) ∙ ap (λ (c : Bool). filter p (take n boards) ++ (if c then board ∷ [] else [])) is)

pub chosen_yes : (start : Packed) (boards : List Packed) (met : List HowMany) (least n : ℕ) (board : Packed) → slice_get boards n ≡ Some board
    → enough_on boards met least board ≡ true → insert_key packed_eq (chosen_of start boards met least n) board ≡ chosen_of start boards met least (n + 1)
chosen_yes start boards met least n board there enough =
    sym (next_chosen start boards (enough_on boards met least) n board true there enough
    ∙ fold_push (insert_key packed_eq) (start ∷ []) (filter (enough_on boards met least) (take n boards)) board)

pub chosen_no : (start : Packed) (boards : List Packed) (met : List HowMany) (least n : ℕ) (board : Packed) → slice_get boards n ≡ Some board
    → enough_on boards met least board ≡ false → chosen_of start boards met least n ≡ chosen_of start boards met least (n + 1)
chosen_no start boards met least n board there few =
    sym (next_chosen start boards (enough_on boards met least) n board false there few
    ∙ ap (insert_all packed_eq (start ∷ [])) (append-nil (filter (enough_on boards met least) (take n boards))))

-- ---- the start

-- What reaches a board reaches the start.
start_reached : (reach : Reach) (boards : List Packed) (board : Packed) → has_page board (reached reach boards) ≡ true → has_page reach.start (reached reach boards) ≡ true
start_reached reach boards board there = elim (cases_lt (position_or_len (packed_eq reach.start) boards) (length boards)) [
  | inl less ↦
      let at = position_or_len (packed_eq reach.start) boards in
      let rest = length-drop at boards in
      let part = length-take (reach.depth + 1) (drop at boards) in
      let some : 0 < length (reached reach boards) = grind (arith, less, rest, part) in
      let here : at + 0 ≡ at = omega arith in
      list_any_at (packed_eq reach.start) (reached reach boards) 0 no_board some
      (ap (packed_eq reach.start)
      (get_or-take (reach.depth + 1) (drop at boards) 0 no_board (omega arith) ∙ get_or-drop at boards 0 no_board ∙ ap (λ (n : ℕ). get_or boards n no_board) here)
      ∙ passes_at_first (packed_eq reach.start) boards no_board less)
  | inr past ↦
      let none : reached reach boards ≡ [] =
      ap (take (reach.depth + 1)) (drop_all (position_or_len (packed_eq reach.start) boards) boards past) ∙ take_all (reach.depth + 1) [] (omega arith) in
      absurd (true≢false (sym there ∙ ap (has_page board) none))
]

start_if_in : (reach : Reach) (ply : Option ℕ) (game : GameTree) (board : Packed) → has_page board (reached_if_in reach ply game) ≡ true
    → has_page reach.start (reached_if_in reach ply game) ≡ true
start_if_in reach (Some ply) game board there = start_reached reach (boards_of game) board there
start_if_in reach None game board there = absurd (true≢false (sym there))

most_at_start : (reach : Reach) (plies : List (Option ℕ)) (games : List GameTree) (board : Packed) (n : ℕ)
    → reaching_below reach plies games board n ≤ reaching_below reach plies games reach.start n
most_at_start reach plies games board zero = omega arith
most_at_start reach plies games board (suc n) =
    by (has_page board (reached_by reach plies games n)) (has_page reach.start (reached_by reach plies games n)) (start_if_in reach (ply_in plies n) (game_in games n) board)
    (most_at_start reach plies games board n)
  where
    by : (here start : Bool) → (here ≡ true → start ≡ true) → reaching_below reach plies games board n ≤ reaching_below reach plies games reach.start n
        → reaching_below reach plies games board n + (if here then 1 else 0) ≤ reaching_below reach plies games reach.start n + (if start then 1 else 0)
    by true true too less = omega (arith, less)
    by true false too less = absurd (true≢false (sym (too refl)))
    by false true too less = omega (arith, less)
    by false false too less = omega (arith, less)

-- The start comes first.
abbrev IsFirst : Packed → List Packed → Type 0
IsFirst start [] = ⊤
IsFirst start (board ∷ boards) = board ≡ start

first_of_reached : (reach : Reach) (boards : List Packed) → IsFirst reach.start (reached reach boards)
first_of_reached reach boards = by (reached reach boards) refl
  where
    by : (l : List Packed) → reached reach boards ≡ l → IsFirst reach.start l
    by [] is = tt
    by (board ∷ rest) is =
        let at = position_or_len (packed_eq reach.start) boards in
        let here : at + 0 ≡ at = omega arith in
        let long : 0 < length (reached reach boards) = subst (λ (l : List Packed). 0 < length l) (sym is) (omega arith) in
        let part = length-take (reach.depth + 1) (drop at boards) in
        let rest_is = length-drop at boards in
        let less : at < length boards = grind (arith, long, part, rest_is) in
        let first : board ≡ get_or boards at no_board =
        ap (λ (l : List Packed). get_or l 0 no_board) (sym is) ∙ get_or-take (reach.depth + 1) (drop at boards) 0 no_board (omega arith)
        ∙ get_or-drop at boards 0 no_board ∙ ap (λ (n : ℕ). get_or boards n no_board) here in
        first ∙ sym ((packed_eq-Decides reach.start (get_or boards at no_board)).0 (passes_at_first (packed_eq reach.start) boards no_board less))

first_if_in : (reach : Reach) (ply : Option ℕ) (game : GameTree) → IsFirst reach.start (reached_if_in reach ply game)
first_if_in reach (Some ply) game = first_of_reached reach (boards_of game)
first_if_in reach None game = tt

first_stays : (start board : Packed) (boards more : List Packed) → board ≡ start → IsFirst start (insert_all packed_eq (board ∷ boards) more)
first_stays start board boards [] is = is
first_stays start board boards (one ∷ more) is = by (has_page one (board ∷ boards)) (first_stays start board boards more is) (first_stays start board (boards ++ one ∷ []) more is)
  where
    by : (b : Bool) → IsFirst start (insert_all packed_eq (board ∷ boards) more) → IsFirst start (insert_all packed_eq (board ∷ boards ++ one ∷ []) more)
        → IsFirst start (insert_all packed_eq (if b then board ∷ boards else board ∷ boards ++ one ∷ []) more)
    by true old new = old
    by false old new = new

some_left : (board : Packed) (boards more : List Packed) → 0 < length (insert_all packed_eq (board ∷ boards) more)
some_left board boards [] = omega arith
some_left board boards (one ∷ more) = by (has_page one (board ∷ boards)) (some_left board boards more) (some_left board (boards ++ one ∷ []) more)
  where
    by : (b : Bool) → 0 < length (insert_all packed_eq (board ∷ boards) more) → 0 < length (insert_all packed_eq (board ∷ boards ++ one ∷ []) more)
        → 0 < length (insert_all packed_eq (if b then board ∷ boards else board ∷ boards ++ one ∷ []) more)
    by true old new = old
    by false old new = new

first_of_all : (start : Packed) (boards more : List Packed) → IsFirst start boards → IsFirst start more → IsFirst start (insert_all packed_eq boards more)
first_of_all start [] [] is too = tt
first_of_all start [] (one ∷ more) is too = first_stays start one [] more too
first_of_all start (board ∷ boards) more is too = first_stays start board boards more is

first_met : (reach : Reach) (plies : List (Option ℕ)) (games : List GameTree) (n : ℕ) → IsFirst reach.start (met_below reach plies games n)
first_met reach plies games zero = tt
first_met reach plies games (suc n) =
    first_of_all reach.start (met_below reach plies games n) (reached_by reach plies games n) (first_met reach plies games n)
    (first_if_in reach (ply_in plies n) (game_in games n))

-- The first board stays where others are added, and where the list is cut.
pub head_stays : (start : Packed) (more : List Packed) → slice_get (take 20000 (insert_all packed_eq (start ∷ []) more)) 0 ≡ Some start
head_stays start more = by (insert_all packed_eq (start ∷ []) more) (first_stays start start [] more refl) (some_left start [] more)
  where
    by : (l : List Packed) → IsFirst start l → 0 < length l → slice_get (take 20000 l) 0 ≡ Some start
    by [] first some = absurd (omega (arith, some))
    by (board ∷ l) first some = ap Some first

inserted_short : (boards more : List Packed) → length (insert_all packed_eq boards more) ≤ length boards + length more
inserted_short boards [] = omega arith
inserted_short boards (one ∷ more) =
    let rest = inserted_short (insert_key packed_eq boards one) more in
    let here = insert_short boards one in
    omega (arith, rest, here)

none_passes : (p : Packed → Bool) (boards : List Packed) → ((board : Packed) → p board ≡ false) → filter p boards ≡ []
none_passes p [] fails = refl
none_passes p (board ∷ boards) fails = ap (λ (b : Bool). if b then board ∷ filter p boards else filter p boards) (fails board) ∙ none_passes p boards fails

-- The start is one of the boards, if there are any.
start_counts : (start : Packed) (p : Packed → Bool) (boards : List Packed) → IsFirst start boards → ((board : Packed) → p start ≡ false → p board ≡ false)
    → length (filter p boards) ≤ 20000 → length (insert_all packed_eq (start ∷ []) (filter p boards)) ≤ 20000
start_counts start p [] is most few = omega arith
start_counts start p (board ∷ boards) is most few = by (p board) refl few
  where
    same : packed_eq board start ≡ true
    same = (packed_eq-Decides board start).1 is

    by : (b : Bool) → p board ≡ b → length (if b then board ∷ filter p boards else filter p boards) ≤ 20000
        → length (insert_all packed_eq (start ∷ []) (if b then board ∷ filter p boards else filter p boards)) ≤ 20000
    by true passes few =
        let there : has_page board (start ∷ []) ≡ true = ap (λ (b : Bool). b || false) same in
        let first : insert_all packed_eq (start ∷ []) (board ∷ filter p boards) ≡ insert_all packed_eq (start ∷ []) (filter p boards) =
        ap (λ (b : Bool). insert_all packed_eq (if b then start ∷ [] else start ∷ board ∷ []) (filter p boards)) there in
        let short = inserted_short (start ∷ []) (filter p boards) in
        omega (arith, ap length first, short, few)
    by false fails few =
        let none : filter p boards ≡ [] = none_passes p boards (λ other. most other (ap p (sym is) ∙ fails)) in
        omega (arith, ap (λ (l : List Packed). length (insert_all packed_eq (start ∷ []) l)) none)

-- ---- the whole

-- The boards that were counted are those of the definition, and the cut leaves out none.
pub boards_are : (reach : Reach) (plies : List (Option ℕ)) (games : List GameTree) (boards : List Packed) (met : List HowMany) (found : List Packed) (least : ℕ)
    → IsDistinct packed_eq boards → length met ≡ length boards → HaveReached reach plies games (length plies) boards met
    → found ≡ take 20000 (insert_all packed_eq (reach.start ∷ []) (well_met boards met least)) → count_from met least ≤ 20000
    → found ≡ book_boards reach plies games least
boards_are reach plies games boards met found least distinct count had is few =
    is ∙ ap (λ (l : List Packed). take 20000 (insert_all packed_eq (reach.start ∷ []) l)) (same_boards reach plies games boards met had least)
    ∙ take_all 20000 (book_boards reach plies games least)
    (start_counts reach.start (λ board. nat_le least (reaching_below reach plies games board (length plies))) (met_below reach plies games (length plies))
    (first_met reach plies games (length plies))
    (λ board fails.
    let most = most_at_start reach plies games board (length plies) in
    let under = leb-false least (reaching_below reach plies games reach.start (length plies)) fails in
    lt-leb least (reaching_below reach plies games board (length plies)) (omega (arith, most, under)))
    (omega (arith, few, counted_same reach plies games boards met distinct count had least)))

pub least_is : (reach : Reach) (plies : List (Option ℕ)) (games : List GameTree) (boards : List Packed) (met : List HowMany) (least : ℕ)
    → IsDistinct packed_eq boards → length met ≡ length boards → HaveReached reach plies games (length plies) boards met
    → reach.least ≤ least → count_from met least ≤ 20000 → ((fewer : ℕ) → reach.least ≤ fewer → fewer < least → 20000 < count_from met fewer)
    → IsLeast reach plies games least
least_is reach plies games boards met least distinct count had asked few needed = record {
  asked = asked;
  few = omega (arith, few, counted_same reach plies games boards met distinct count had least);
  needed = λ fewer from less.
      let many = needed fewer from less in
      omega (arith, many, counted_same reach plies games boards met distinct count had fewer);
}
