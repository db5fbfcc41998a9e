-- The files of a book as they are put down (this project's own).
use Rattle.std.specs.Prelude.{◌≡◌, ℕ, List, [], ◌∷◌, ◌++◌, Option, Some, None, Contains, slice_get}
use Rattle.cell_core.specs.Packed.{Packed, men_of}
use Rattle.game_tree.specs.Game.{GameTree}
use Rattle.game_tree.specs.declared.head.Head.{Head}
use Rattle.tree_rows.specs.Rows.{rows_of}
use Rattle.tree_rows.specs.declared.row.Row.{Row}
use Rattle.book_pages.specs.Book.{Pages}
use Rattle.book_pages.specs.Hits.{exactly, tree_hits}
use Rattle.book_pages.specs.Reached.{IsLeast, book_boards}
use Rattle.book_pages.specs.declared.reach.Reach.{Reach}
use Rattle.page_html.specs.Names.{file_of}
use Rattle.page_html.specs.Page.{IsPage}

-- A file: its name and its text.
pub record File : Type 0 where
  pub name : List ℕ
  pub text : List ℕ

-- The files that were put down, where they are told, and one more.
abbrev pub with_file : Option (List File) → File → Option (List File)
with_file None file = None
with_file (Some files) file = Some (files ++ file ∷ [])

-- Among files stands the page of a board, under the name of the board: it has the table of these rows.
pub record HasPage (boards : List Packed) (heads : List Head) (board : Packed) (rows : List Row) (files : List File) : Type 0 where
  pub file : File
  pub there : Contains files file
  pub name : file.name ≡ file_of board
  pub page : IsPage boards heads board rows file.text

-- Each board of a book has its page, with its rows.
abbrev pub HasPages : Pages → List Head → List File → Type 0
HasPages pages heads files =
    (number : ℕ) (board : Packed) (rows : List Row) → slice_get pages.boards number ≡ Some board → slice_get pages.rows number ≡ Some rows
    → HasPage pages.boards heads board rows files

-- The book that is asked for of the games of a filter: each board that is to have a page has one, with the rows of its tree over these games.
pub record IsBook (reach : Reach) (plies : List (Option ℕ)) (heads : List Head) (games : List GameTree) (least : ℕ) (files : List File) : Type 0 where
  pub fewest : IsLeast reach plies games least
  pub pages : (board : Packed) → Contains (book_boards reach plies games least) board
      → HasPage (book_boards reach plies games least) heads board
      (rows_of (tree_hits (exactly (men_of board.cells) board.side) plies heads games)) files
