-- Which positions have a page of a book (this project's own).
use Rattle.std.specs.Prelude.{◌≡◌, ◌≤◌, ◌<◌, ℕ, zero, suc, ◌+◌, nat_le, if◌then◌else◌, List, [], ◌∷◌, Option, Some, None, drop, filter, length, map, take}
use Rattle.std.specs.List.{position_or_len, range_with_len}
use Rattle.cell_core.specs.Packed.{Packed, packed_of}
use Rattle.chess_laws.specs.declared.setup.Setup.{Setup}
use Rattle.game_tree.specs.Game.{GameTree}
use Rattle.game_tree.specs.Replay.{plies_of, position_at}
use Rattle.indexmap.specs.IndexSet.{insert_all}
use Rattle.book_pages.specs.Book.{has_page, packed_eq}
use Rattle.book_pages.specs.Hits.{game_in, ply_in}
use Rattle.book_pages.specs.declared.reach.Reach.{Reach}

-- The board of a position with its side to move; that behind so many moves of a main line, and those of all its positions.
abbrev pub packed_at : Setup → Packed
packed_at p = packed_of p.board p.side

abbrev pub board_at : GameTree → ℕ → Packed
board_at game ply = packed_at (position_at game ply)

abbrev pub boards_of : GameTree → List Packed
boards_of game = map (board_at game) (range_with_len 0 (plies_of game + 1))

-- What a game reaches: its boards from the first on that is the start, so many moves deep.
abbrev pub reached : Reach → List Packed → List Packed
reached reach boards = take (reach.depth + 1) (drop (position_or_len (packed_eq reach.start) boards) boards)

-- A game that is out reaches none.
abbrev pub reached_if_in : Reach → Option ℕ → GameTree → List Packed
reached_if_in reach (Some ply) game = reached reach (boards_of game)
reached_if_in reach None game = []

abbrev pub reached_by : Reach → List (Option ℕ) → List GameTree → ℕ → List Packed
reached_by reach plies games i = reached_if_in reach (ply_in plies i) (game_in games i)

-- What the first n games reach, in the order in which they first do, each board once.
abbrev pub met_below : Reach → List (Option ℕ) → List GameTree → ℕ → List Packed
met_below reach plies games zero = []
met_below reach plies games (suc n) = insert_all packed_eq (met_below reach plies games n) (reached_by reach plies games n)

-- How many of the first n games reach a board: each counts once.
abbrev pub reaching_below : Reach → List (Option ℕ) → List GameTree → Packed → ℕ → ℕ
reaching_below reach plies games board zero = 0
reaching_below reach plies games board (suc n) =
    reaching_below reach plies games board n + (if has_page board (reached_by reach plies games n) then 1 else 0)

-- The boards that at least so many games of a filter reach.
abbrev pub reached_by_many : Reach → List (Option ℕ) → List GameTree → ℕ → List Packed
reached_by_many reach plies games least =
    filter (λ board. nat_le least (reaching_below reach plies games board (length plies))) (met_below reach plies games (length plies))

-- The boards of a book: the start, and those.
abbrev pub book_boards : Reach → List (Option ℕ) → List GameTree → ℕ → List Packed
book_boards reach plies games least = insert_all packed_eq (reach.start ∷ []) (reached_by_many reach plies games least)

-- How many games reach each at least: as many as were asked for, or so many more that there are no more than 20,000 boards, and not one too many.
pub record IsLeast (reach : Reach) (plies : List (Option ℕ)) (games : List GameTree) (least : ℕ) : Type 0 where
  pub asked : reach.least ≤ least
  pub few : length (reached_by_many reach plies games least) ≤ 20000
  pub needed : (fewer : ℕ) → reach.least ≤ fewer → fewer < least → 20000 < length (reached_by_many reach plies games fewer)
