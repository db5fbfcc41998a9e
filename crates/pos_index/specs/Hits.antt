-- Where games stand on a board, up to a depth (this project's own).
use Rattle.std.specs.Prelude.{◌≡◌, ℕ, ◌+◌, ◌-◌, ◌*◌, ◌≤◌, ◌&&◌, if◌then◌else◌, nat_eq, All, Bool, List, [], ◌∷◌, ◌++◌, Option, Some, None, is_some, length, map, min, option_map, slice_get, slice_index_or, sum, sum_by, unwrap_or, IfSome}
use Rattle.std.specs.Cmp.Lexicographic.{pointwise}
use Rattle.std.specs.List.{find, range_with_len}
use Rattle.cell_core.specs.declared.step.Move.{Move}
use Rattle.cell_core.specs.Man.{same_colour}
use Rattle.cell_core.specs.Packed.{Packed, men_of, packed_of}
use Rattle.chess_laws.specs.Counts.{counts_of}
use Rattle.chess_laws.specs.Moves.{IsFrom}
use Rattle.game_tree.specs.Game.{GameTree}
use Rattle.game_tree.specs.Replay.{next_at, plies_of, position_at}
use Rattle.sig_index.specs.Homes.{home_set}
use Rattle.pos_index.specs.declared.hit.Hit.{Hit}
use Rattle.pos_index.specs.declared.last.Last.{Last}

-- A place of a game: the board with the side to move, packed, after so many half-moves of its main line, and the move after it, if there
-- is one. Castling rights and the en passant square are left out.
pub record Place : Type 0 where
  pub board : Packed
  pub ply : ℕ
  pub next : Option Move

abbrev pub place_at : GameTree → ℕ → Place
place_at game ply = record {
  board = packed_of (position_at game ply).board (position_at game ply).side;
  ply = ply;
  next = next_at game ply;
}

-- A move is legal from some position of a packed board and its side to move; and so is the move after a place, if there is one.
abbrev pub IsLegalOn : Packed → Move → Type 0
IsLegalOn board m = IsFrom (men_of board.cells) board.side m

abbrev pub IsLegalPlace : Place → Type 0
IsLegalPlace place = IfSome place.next (IsLegalOn place.board)

-- The places of a game from ply 0 to the smaller of the depth and its plies.
abbrev pub places_of : ℕ → GameTree → List Place
places_of depth game = map (place_at game) (range_with_len 0 (min depth (plies_of game) + 1))

-- The same of the game that has a number, and no place if none has it.
abbrev pub row_of : ℕ → Option GameTree → List Place
row_of depth game = unwrap_or (option_map (places_of depth) game) []

-- Two packed boards are the same: the same men on the same squares, and the same side to move.
abbrev pub same_packed : Packed → Packed → Bool
same_packed a b = pointwise nat_eq a.cells b.cells && same_colour a.side b.side

-- The hits of a game with this number on a board: its places there, in order.
abbrev pub hits_in : Packed → ℕ → List Place → List Hit
hits_in board game [] = []
hits_in board game (place ∷ places) =
    if same_packed board place.board
    then record { game = game; ply = place.ply; next = place.next } ∷ hits_in board game places
    else hits_in board game places

-- The hits of all games, the first of which has this number, in order.
abbrev pub hits_from : Packed → ℕ → List (List Place) → List Hit
hits_from board game [] = []
hits_from board game (row ∷ rows) = hits_in board game row ++ hits_from board (game + 1) rows

-- The hits on a board up to a depth, if each number has a game or none.
abbrev pub hits_of : ℕ → List (Option GameTree) → Packed → List Hit
hits_of depth games board = hits_from board 0 (map (row_of depth) games)

-- The places of the game that has a number, and no place past the last.
abbrev pub places_in : List (List Place) → ℕ → List Place
places_in rows i = slice_index_or rows i []

-- The first place of a game on a board: after how many half-moves it stands there, and the move then; or none if it has none there.
abbrev pub ply_and_next : Place → ℕ × Option Move
ply_and_next place = (place.ply, place.next)

abbrev pub first_on : Packed → List Place → Option (ℕ × Option Move)
first_on board places = option_map ply_and_next (find (λ (place : Place). same_packed board place.board) places)

-- What is kept of the last place of a game, up to the depth: which pawns stand on their own squares there, how many men there are, kings
-- not counted, and whether a move comes after it. Nothing is kept of a game without places.
abbrev pub last_at : Place → Last
last_at place = record {
  homes = home_set (men_of place.board.cells);
  men = sum (counts_of (men_of place.board.cells));
  goes_on = is_some place.next;
}

abbrev pub last_of : List Place → Option Last
last_of places = option_map last_at (slice_get places (length places - 1))

-- An index as contracts see it: its depth, and for each number the places of the game that has it.
pub record Index : Type 0 where
  pub depth : ℕ
  pub rows : List (List Place)

-- The places that an index has of each game, and none without an index.
abbrev pub rows_told : Option Index → List (List Place)
rows_told None = []
rows_told (Some index) = index.rows

-- It stands for these games: each number has the places of its game.
abbrev pub Indexes : Index → List (Option GameTree) → Type 0
Indexes index games = index.rows ≡ map (row_of index.depth) games

-- The index, if there is one, has the places of these games.
abbrev pub IndexesAll : Option Index → List GameTree → Type 0
IndexesAll index list = IfSome index (λ (x : Index). Indexes x (map Some list))

-- So many places at most, each with a legal move or none after it.
pub record IsRow (most : ℕ) (row : List Place) : Type 0 where
  pub few : length row ≤ most
  pub legal : All IsLegalPlace row

-- How many hits there are on all boards.
abbrev pub entries_of : List (List Place) → ℕ
entries_of rows = sum_by length rows

-- How many games may stand under an index of a depth.
abbrev pub Fits : ℕ → ℕ → Type 0
Fits depth games = games * (depth + 1) ≤ 16000000
