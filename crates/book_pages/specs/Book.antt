-- A book as contracts see it, and what its pages show (this project's own).
use Rattle.std.specs.Prelude.{◌≡◌, ℕ, Bool, List, Option, Some, slice_get}
use Rattle.std.specs.List.{list_any}
use Rattle.cell_core.specs.contracts.packed.PackedBoardPartialEq.TheImpl as packed_impl
use Rattle.cell_core.specs.Packed.{Packed, men_of}
use Rattle.game_tree.specs.Game.{GameTree}
use Rattle.game_tree.specs.declared.head.Head.{Head}
use Rattle.tree_rows.specs.Rows.{rows_of}
use Rattle.tree_rows.specs.declared.row.Row.{Row}
use Rattle.book_pages.specs.Hits.{exactly, tree_hits}

-- The boards of the pages, each with the side to move, and the rows of each page.
pub record Pages : Type 0 where
  pub boards : List Packed
  pub rows : List (List Row)

-- The test by which packed boards are compared: word by word, and the sides.
abbrev pub packed_eq : Packed → Packed → Bool
packed_eq = (packed_impl.ghosts).eq

-- Whether a board is one of these.
abbrev pub has_page : Packed → List Packed → Bool
has_page board boards = list_any (packed_eq board) boards

-- The rows of each page are those of the tree of its board and side, over the games of a filter.
abbrev pub ShowTrees : List (Option ℕ) → List Head → List GameTree → Pages → Type 0
ShowTrees plies heads games pages =
    (number : ℕ) (board : Packed) (rows : List Row) → slice_get pages.boards number ≡ Some board → slice_get pages.rows number ≡ Some rows
    → rows ≡ rows_of (tree_hits (exactly (men_of board.cells) board.side) plies heads games)
