-- What the parts of an index keep. Only models and private functions cite these words.
use Rattle.std.specs.Prelude.{◌≡◌, ℕ, ◌+◌, ◌<◌, ◌≤◌, ◌^◌, ◌==◌, if◌then◌else◌, All, Bool, List, [], ◌∷◌, ◌++◌, Option, Some, None, length, map, slice_get, slice_index_or, slice_set, IfSome}
use Rattle.std.specs.List.{range_with_len}
use Rattle.indexmap.specs.IndexSet.{IndexSet, IsUnique}
use Rattle.cell_core.specs.declared.man.Colour.TheVariants.{White}
use Rattle.cell_core.specs.Packed.{Packed}
use Rattle.cell_core.specs.contracts.packed.PackedBoardPartialEq.TheImpl as packed_impl
use Rattle.pos_index.specs.declared.hit.Hit.{Hit}
use Rattle.pos_index.specs.declared.spot.Spot.{Spot}
use Rattle.game_tree.specs.Game.{GameTree}
use Rattle.cell_core.specs.declared.step.Move.{Move}
use Rattle.pos_index.specs.Hits.{IsRow, Place, place_at}

-- The hits of a game with this number on a board, by its number; and those of all games, the first of which has this number.
abbrev pub hits_at : ℕ → ℕ → List Spot → List Hit
hits_at board game [] = []
hits_at board game (spot ∷ spots) =
    if board == spot.board
    then record { game = game; ply = spot.ply; next = spot.next } ∷ hits_at board game spots
    else hits_at board game spots

abbrev pub hits_by : ℕ → ℕ → List (List Spot) → List Hit
hits_by board game [] = []
hits_by board game (row ∷ rows) = hits_at board game row ++ hits_by board (game + 1) rows

-- The hits of the games that stay, with the new numbers of the games.
abbrev pub moved_by : Option ℕ → Hit → List Hit → List Hit
moved_by None hit hits = hits
moved_by (Some number) hit hits = record { game = number; ply = hit.ply; next = hit.next } ∷ hits

abbrev pub moved : List (Option ℕ) → List Hit → List Hit
moved to [] = []
moved to (hit ∷ hits) = moved_by (slice_index_or to hit.game None) hit (moved to hits)

-- The hits of one game among those on a board.
abbrev pub own_hits : ℕ → List Hit → List Hit
own_hits game [] = []
own_hits game (hit ∷ hits) = if game == hit.game then hit ∷ own_hits game hits else own_hits game hits

-- The hits of a game stand together, behind those of the games before it.
pub record IsApart (hits : List Hit) (game : ℕ) (own : List Hit) : Type 0 where
  pub before : List Hit
  pub behind : List Hit
  pub is : hits ≡ before ++ (own ++ behind)
  pub below : All (λ (h : Hit). h.game < game) before
  pub above : All (λ (h : Hit). game < h.game) behind
  pub here : All (λ (h : Hit). h.game ≡ game) own

-- The hit at a place.
abbrev pub hit_in : List Hit → ℕ → Hit
hit_in hits k = slice_index_or hits k (record { game = 0; ply = 0; next = None })

-- The boards of spots, and how often a board stands among others.
abbrev pub board_of : Spot → ℕ
board_of spot = spot.board

abbrev pub boards_of : List (List Spot) → List (List ℕ)
boards_of rows = map (map board_of) rows

abbrev pub times : ℕ → List ℕ → ℕ
times board [] = 0
times board (other ∷ boards) = if board == other then times board boards + 1 else times board boards

-- The spots of a game on boards, behind those that it was on before: the hit of each is the one of the game on that board behind as many
-- others as the board stands before. And those of all games, the first of which has this number.
abbrev pub spot_of : ℕ → Hit → Spot
spot_of board hit = record { board = board; ply = hit.ply; next = hit.next }

abbrev pub row_seen : List (List Hit) → ℕ → List ℕ → List ℕ → List Spot
row_seen lists game before [] = []
row_seen lists game before (board ∷ boards) =
    spot_of board (hit_in (own_hits game (slice_index_or lists board [])) (times board before)) ∷ row_seen lists game (before ++ board ∷ []) boards

abbrev pub rows_seen : List (List Hit) → ℕ → List (List ℕ) → List (List Spot)
rows_seen lists game [] = []
rows_seen lists game (row ∷ rows) = row_seen lists game [] row ∷ rows_seen lists (game + 1) rows

-- The list at a number, and none past the last; and the same with another list there.
abbrev pub row_in : {T : Type 0} → List (List T) → ℕ → List T
row_in rows i = slice_index_or rows i []

abbrev pub with_row : {T : Type 0} → List (List T) → ℕ → List T → List (List T)
with_row rows i row = slice_set rows i row

-- The spot and the place at a number, and the same with another move after it.
abbrev pub spot_in : List Spot → ℕ → Spot
spot_in row k = slice_index_or row k (record { board = 0; ply = 0; next = None })

abbrev pub next_set : Option Move → Spot → Spot
next_set next spot = record { board = spot.board; ply = spot.ply; next = next }

abbrev pub place_in : List Place → ℕ → Place
place_in row k = slice_index_or row k (record { board = record { cells = []; side = White }; ply = 0; next = None })

abbrev pub next_put : Option Move → Place → Place
next_put next place = record { board = place.board; ply = place.ply; next = next }

-- A place is on this board and after so many half-moves.
pub record IsPlaceOn (board : Packed) (ply : ℕ) (place : Place) : Type 0 where
  pub board_is : place.board ≡ board
  pub ply_is : place.ply ≡ ply

-- The first places of a game, so many, whatever its plies.
abbrev pub first_places : GameTree → ℕ → List Place
first_places game n = map (place_at game) (range_with_len 0 n)

-- The first places of a row, so many, are those of a game but for the moves after them.
pub record AreAlike (row : List Place) (game : GameTree) (n : ℕ) : Type 0 where
  pub within : n ≤ length row
  pub each : (k : ℕ) → k < n → IsPlaceOn (place_at game k).board k (place_in row k)

-- The last list is empty.
pub record EndsEmpty {T : Type 0} (rows : List (List T)) : Type 0 where
  pub front : List (List T)
  pub ends : rows ≡ front ++ [] ∷ []

-- How many boards there are, and the spots of each game.
pub record Listed : Type 0 where
  pub boards : ℕ
  pub rows : List (List Spot)

-- Every spot is on a board below this number.
abbrev pub AreOn : ℕ → List (List Spot) → Type 0
AreOn boards rows = All (All (λ spot. spot.board < boards)) rows

-- On each board are the hits of the spots that are there.
pub record AreListed (lists : List (List Hit)) (rows : List (List Spot)) : Type 0 where
  pub each : (board : ℕ) → board < length lists → slice_get lists board ≡ Some (hits_by board 0 rows)
  pub known : AreOn (length lists) rows

-- The board with a number.
abbrev pub board_in : List Packed → ℕ → Packed
board_in boards i = slice_index_or boards i (record { cells = []; side = White })

-- The place of a game that a spot stands for, and the places of all games.
abbrev pub place_of : List Packed → Spot → Place
place_of boards spot = record { board = board_in boards spot.board; ply = spot.ply; next = spot.next }

abbrev pub row_places : List Packed → List Spot → List Place
row_places boards row = map (place_of boards) row

abbrev pub places_by : List Packed → List (List Spot) → List (List Place)
places_by boards rows = map (row_places boards) rows

-- The test by which packed boards are compared.
abbrev pub packed_eq : Packed → Packed → Bool
packed_eq = (packed_impl.ghosts).eq

-- The spots are of boards that are there, the boards differ, and each has its list.
pub record AreKept {S : Type 0} (boards : IndexSet Packed S) (lists : Listed) : Type 0 where
  pub unique : IsUnique packed_eq boards
  pub known : AreOn (length boards.keys) lists.rows
  pub listed : length boards.keys ≤ lists.boards
  pub few : length boards.keys < 2 ^ 32

-- This is the number of a board.
pub record IsNumber (boards : List Packed) (number : ℕ) (board : Packed) : Type 0 where
  pub within : number < length boards
  pub board_is : board_in boards number ≡ board

-- Places were put behind those of game i; and at most so many, each with a legal move or none after it.
pub record HasPut (old : List (List Place)) (i : ℕ) (new : List (List Place)) : Type 0 where
  pub places : List Place
  pub put : new ≡ with_row old i (row_in old i ++ places)

pub record HasPutAtMost (most : ℕ) (old : List (List Place)) (i : ℕ) (new : List (List Place)) : Type 0 where
  pub places : List Place
  pub row : IsRow most places
  pub put : new ≡ with_row old i (row_in old i ++ places)

-- A game was added that has at most so many places, each with a legal move or none after it.
pub record AddsRow (most : ℕ) (old new : List (List Place)) : Type 0 where
  pub row : List Place
  pub is_row : IsRow most row
  pub added : new ≡ old ++ row ∷ []

-- No game from one number on, and before another, has a hit: what stands first behind the hits of the games before it is of a later game.
abbrev pub IsGap : List Hit → ℕ → ℕ → Type 0
IsGap hits from to = (game : ℕ) → from ≤ game → game < to → (front back : List Hit) → hits ≡ front ++ back
    → All (λ (h : Hit). h.game < game) front → All (λ (h : Hit). game ≤ h.game) back → IfSome (slice_get back 0) (λ (h : Hit). game < h.game)
