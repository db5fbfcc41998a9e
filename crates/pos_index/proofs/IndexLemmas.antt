-- An index that stands for a list of games.
use Rattle.std.proofs.Common.{◌≡◌, ◌≤◌, ◌<◌, ◌+◌, ◌*◌, ℕ, zero, suc, List, [], ◌∷◌, ◌++◌, None, Some, Option, length, set, map, min, sum_by, take, refl, sym, ap, ◌∙◌, arith}
use Rattle.std.specs.Prelude.{All}
use Rattle.std.specs.List.{range_with_len}
use Rattle.std.proofs.lemmas.List.{get_or-set_same, get_or_push, length-map, length-set, map-set, map_push, set_at, take_more}
use Rattle.std.proofs.lemmas.List.Sums.{sum_by-le}
use Rattle.std.proofs.lemmas.Nat.{mul-le}
use Rattle.std.proofs.lemmas.List.Elements.{All-cons, All-head, All-nil, All-tail, All-weaker}
use Rattle.game_filter.specs.Renumbering.{renumbered}
use Rattle.game_tree.specs.Game.{GameTree}
use Rattle.game_tree.specs.Replay.{plies_of}
use Rattle.pos_index.specs.Hits.{IsLegalPlace, IsRow, Place, last_of, place_at, places_of, row_of}
use Rattle.pos_index.specs.declared.last.Last.{Last}
use Rattle.pos_index.specs.Keeping.{place_in, row_in, with_row}
use Rattle.pos_index.proofs.PlaceLemmas.{map-renumbered}

-- ---- the games that an index stands for

pub stands_added : (depth : ℕ) (rows : List (List Place)) (games : List (Option GameTree)) (game : GameTree) → rows ≡ map (row_of depth) games
    → rows ++ places_of depth game ∷ [] ≡ map (row_of depth) (games ++ Some game ∷ [])
stands_added depth rows games game is = ap (λ (l : List (List Place)). l ++ places_of depth game ∷ []) is ∙ sym (map_push (row_of depth) games (Some game))

pub stands_set : (depth i : ℕ) (rows : List (List Place)) (games : List (Option GameTree)) (game : Option GameTree) → rows ≡ map (row_of depth) games
    → set rows i (row_of depth game) ≡ map (row_of depth) (set games i game)
stands_set depth i rows games game is = ap (λ (l : List (List Place)). set l i (row_of depth game)) is ∙ sym (map-set (row_of depth) games i game)

pub stands_renumbered : (depth : ℕ) (to : List (Option ℕ)) (rows : List (List Place)) (games : List (Option GameTree)) → rows ≡ map (row_of depth) games
    → renumbered to rows ≡ map (row_of depth) (renumbered to games)
stands_renumbered depth to rows games is = ap (renumbered to) is ∙ sym (map-renumbered (row_of depth) to games)

-- ---- how long rows are

pub length-range : (a n : ℕ) → length (range_with_len a n) ≡ n
length-range a zero = refl
length-range a (suc n) = ap suc (length-range (a + 1) n)

pub places_few : (depth : ℕ) (game : GameTree) → length (places_of depth game) ≤ depth + 1
places_few depth game =
    omega (arith, length-map (range_with_len 0 (min depth (plies_of game) + 1)) (place_at game), length-range 0 (min depth (plies_of game) + 1))

abbrev pub AreShort : ℕ → List (List Place) → Type 0
AreShort most rows = All (IsRow most) rows

pub short_renumbered : (most : ℕ) (to : List (Option ℕ)) (rows : List (List Place)) → AreShort most rows → AreShort most (renumbered to rows)
short_renumbered most [] rows all = All-nil (IsRow most)
short_renumbered most (number ∷ to) [] all = All-nil (IsRow most)
short_renumbered most (None ∷ to) (row ∷ rows) all = short_renumbered most to rows (All-tail (IsRow most) row rows all)
short_renumbered most (Some number ∷ to) (row ∷ rows) all = All-cons (IsRow most) row (renumbered to rows) (All-head (IsRow most) row rows all)
    (short_renumbered most to rows (All-tail (IsRow most) row rows all))

pub fewer_renumbered : {T : Type 0} (to : List (Option ℕ)) (rows : List T) → length (renumbered to rows) ≤ length rows
fewer_renumbered [] rows = omega arith
fewer_renumbered (number ∷ to) [] = omega arith
fewer_renumbered (None ∷ to) (row ∷ rows) = omega (arith, fewer_renumbered to rows)
fewer_renumbered (Some number ∷ to) (row ∷ rows) = omega (arith, fewer_renumbered to rows)

pub total-few : (depth : ℕ) (rows : List (List Place)) → AreShort (depth + 1) rows → length rows * (depth + 1) ≤ 16000000 → sum_by length rows ≤ 16000000
total-few depth rows all fits =
    omega (arith, sum_by-le (λ (r : List Place). length r) (depth + 1) rows (All-weaker (IsRow (depth + 1)) (λ (r : List Place). length r ≤ depth + 1) (λ r is. is.few) rows all), fits)

-- At most so many games.
pub games_few : (depth n : ℕ) → n * (depth + 1) ≤ 16000000 → n ≤ 16000000
games_few depth n fits =
    let less : n * 1 ≤ n * (depth + 1) = mul-le n 1 n (depth + 1) (omega arith) (omega arith) in
    omega (arith, fits, less)

pub fewer_fit : (depth n m : ℕ) → n ≤ m → m * (depth + 1) ≤ 16000000 → n * (depth + 1) ≤ 16000000
fewer_fit depth n m le fits = omega (arith, fits, mul-le n (depth + 1) m (depth + 1) le (omega arith))

-- ---- a game at the end, and another in a place

-- Places more in the last row.
pub last_more : (old : List (List Place)) (i : ℕ) (row places : List Place) → i ≡ length old
    → with_row (old ++ row ∷ []) i (row_in (old ++ row ∷ []) i ++ places) ≡ old ++ (row ++ places) ∷ []
last_more old i row places last =
    ap (λ (r : List Place). with_row (old ++ row ∷ []) i (r ++ places)) (get_or_push {X = List Place} old row [] i (sym last))
    ∙ set_at {A = List Place} old row [] (row ++ places) i (sym last)

pub put_last : (old now : List (List Place)) (i : ℕ) (places : List Place) → i ≡ length old → now ≡ with_row (old ++ [] ∷ []) i (row_in (old ++ [] ∷ []) i ++ places) → now ≡ old ++ places ∷ []
put_last old now i places last is = is ∙ last_more old i [] places last

-- One place more of a game that is copied.
pub copied_more : (old mid now : List (List Place)) (i k : ℕ) (row : List Place) (place : Place) → i ≡ length old → k < length row → place_in row k ≡ place
    → mid ≡ old ++ take k row ∷ [] → now ≡ with_row mid i (row_in mid i ++ place ∷ []) → now ≡ old ++ take (k + 1) row ∷ []
copied_more old mid now i k row place last within at so put =
    put ∙ ap (λ (l : List (List Place)). with_row l i (row_in l i ++ place ∷ [])) so ∙ last_more old i (take k row) (place ∷ []) last
    ∙ ap (λ (r : List Place). old ++ r ∷ []) (sym (take_more row k (place_in [] 0) within ∙ ap (λ (p : Place). take k row ++ p ∷ []) at))

pub no_places : (most : ℕ) → IsRow most []
no_places most = record { few = omega arith; legal = All-nil IsLegalPlace }

-- ---- the last places of all games

-- That of a game whose places were set.
pub last_kept : (rows now : List (List Place)) (i : ℕ) (row : List Place) (lasts : List (Option Last)) (last : Option Last) → i < length now → lasts ≡ map last_of rows
    → now ≡ set rows i row → last ≡ last_of (row_in now i) → set lasts i last ≡ map last_of now
last_kept rows now i row lasts last there kept is at =
    let within : i < length rows = omega (arith, there, ap length is, length-set rows i row) in
    let own : last ≡ last_of row = at ∙ ap (λ (l : List (List Place)). last_of (row_in l i)) is ∙ ap last_of (get_or-set_same rows i row [] within) in
    (λ j. set (kept j) i (own j)) ∙ sym (map-set last_of rows i row) ∙ ap (map last_of) (sym is)

pub lasts_length : (rows now : List (List Place)) (i : ℕ) (row : List Place) (lasts : List (Option Last)) → lasts ≡ map last_of rows → now ≡ set rows i row → length lasts ≡ length now
lasts_length rows now i row lasts kept is = ap length kept ∙ length-map rows last_of ∙ sym (length-set rows i row) ∙ sym (ap length is)

-- Of one game more, without places.
pub last_none : (rows : List (List Place)) (lasts : List (Option Last)) → lasts ≡ map last_of rows → lasts ++ None ∷ [] ≡ map last_of (rows ++ [] ∷ [])
last_none rows lasts kept = ap (λ (l : List (Option Last)). l ++ None ∷ []) kept ∙ sym (map_push last_of rows [])

-- A game at the end is one that is set there.
pub added_set : (rows : List (List Place)) (i : ℕ) (row : List Place) → i ≡ length rows → rows ++ row ∷ [] ≡ set (rows ++ [] ∷ []) i row
added_set rows i row last = sym (set_at {A = List Place} rows [] [] row i (sym last))
